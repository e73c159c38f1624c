-- The definitions of the crate tree.
pub mod Explore
pub mod Budget
pub mod Legs
pub mod Machine
