-- The laws of the crate horn.
pub mod HornLaws
pub mod MachineLaws
