-- The definitions and laws of the crate decision.
pub mod Answers
pub mod Right
pub mod Demands
pub mod HornAnswers
pub mod SplitAnswers
pub mod Machine
pub mod MachineLaws
pub mod DemandLaws
