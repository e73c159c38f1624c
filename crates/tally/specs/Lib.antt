-- The definitions of the crate tally.
pub mod Tally
pub mod Machine
