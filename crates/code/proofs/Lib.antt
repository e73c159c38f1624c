-- The laws of the crate code.
pub mod KeepLaws
pub mod VolumeLaws
pub mod ChosenLaws
pub mod RateLaws
pub mod CodeLaws
pub mod FloorLaws
pub mod ClosingLaws
pub mod ChooseLaws
pub mod OperationLaws
pub mod MachineLaws
pub mod GrowLaws
