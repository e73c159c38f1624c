-- The laws of the crate alike.
pub mod AlikeLaws
