-- What the contracts of the program minimal_core cite.
pub mod Program
