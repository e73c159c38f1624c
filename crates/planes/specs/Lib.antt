-- The definitions of the crate planes.
pub mod Machine
