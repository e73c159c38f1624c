-- The definitions of the crate legs.
pub mod Legs
pub mod LegRefusals
pub mod Machine
