-- The definitions of the crate alike.
pub mod Alike
pub mod Machine
