-- The laws of the crate words.
pub mod ListLaws
pub mod BitLaws
pub mod CountLaws
pub mod WordLaws
pub mod SetLaws
