-- What the contracts of the program clearing cite.
pub mod Program
