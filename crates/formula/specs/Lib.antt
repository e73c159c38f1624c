-- The definitions of the crate formula.
pub mod Formula
pub mod Sheet
pub mod Refusals
pub mod Sets
pub mod Counts
pub mod Machine
pub mod Reading
