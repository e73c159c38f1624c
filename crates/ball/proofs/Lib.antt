-- The laws of the crate ball.
pub mod ReadingLaws
pub mod RuleLaws
pub mod CallLaws
pub mod CountLaws
pub mod FlipLaws
pub mod ForcedLaws
pub mod ChoiceLaws
pub mod ClauseLaws
pub mod MachineLaws
