-- What the contracts of the crate line cite.
pub mod Line
pub mod Request
