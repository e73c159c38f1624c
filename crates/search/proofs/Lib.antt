-- The laws of the crate search.
pub mod CentreLaws
pub mod ReachLaws
pub mod RunLaws
pub mod LegLaws
pub mod CallLaws
pub mod BallsLaws
pub mod LayoutLaws
pub mod CodesLaws
