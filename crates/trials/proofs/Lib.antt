-- The laws of the crate trials.
pub mod BruteLaws
