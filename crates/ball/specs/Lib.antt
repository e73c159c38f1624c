-- The crate ball. What a reader must believe: Ball (the search in one ball), and Names, with the statements on the names of clauses.
-- Machine says how the machine's data are read.
pub mod Ball
pub mod Names
pub mod Machine
