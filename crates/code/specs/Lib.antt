-- The definitions of the crate code.
pub mod Covering
pub mod Code
pub mod Volume
pub mod Closing
pub mod Operations
pub mod Machine
