-- The definitions of the crate horn. What a reader must believe: Horn.
pub mod Horn
pub mod Machine
