-- The laws of the crate tree.
pub mod TreeLaws
pub mod BudgetLaws
pub mod LegLaws
pub mod Decides
