-- The laws of the crate splitting.
pub mod SplittingLaws
pub mod SetLaws
pub mod MachineLaws
