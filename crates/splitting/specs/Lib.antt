-- The definitions of the crate splitting. What a reader must believe: Splitting.
pub mod Splitting
pub mod Machine
