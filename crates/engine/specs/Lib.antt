-- The definitions of the crate engine.
pub mod Replies
pub mod Machine
