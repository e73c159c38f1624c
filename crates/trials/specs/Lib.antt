-- What the contracts of the crate trials cite.
pub mod Brute
