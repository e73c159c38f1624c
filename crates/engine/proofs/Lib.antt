-- What proofs of the crate engine share.
pub mod AlikeAnswers
pub mod CountsAnswers
pub mod TallyAnswers
pub mod Examples
pub mod MachineLaws
