-- The definitions of the crate words: lists and their tests, the bits of a number, and what an assignment and a set read as.
pub mod Lists
pub mod Bits
pub mod Machine
pub mod Refusals
