-- The laws of the crate tally.
pub mod NumberLaws
pub mod TallyLaws
pub mod OperationLaws
pub mod Promises
pub mod MachineLaws
