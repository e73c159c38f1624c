-- The laws of the crate legs.
pub mod LegAnswers
pub mod LegLimit
pub mod MachineLaws
pub mod LegLaws
