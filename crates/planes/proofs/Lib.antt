-- The laws of the crate planes.
pub mod LaneLaws
pub mod PlaneLaws
pub mod OccurLaws
pub mod CountsLaws
pub mod StartLaws
