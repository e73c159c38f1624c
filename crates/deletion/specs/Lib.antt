-- The definitions and laws of the crate deletion.
pub mod Core
pub mod CoreLaws
pub mod CoreAnswers
pub mod Machine
