-- The crate search. What a reader must believe: Run (blocks, centres, run, legs). Blocks and Machine say how the machine's data are read.
pub mod Run
pub mod Blocks
pub mod Machine
