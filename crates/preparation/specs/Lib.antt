-- Which shortcuts preparation writes, and what it answers, in document 01's words.
pub mod Contraction
pub mod Answers
-- Words in which the inner functions speak to each other. No entry point's promise rests on them.
pub mod Preparing
pub mod Choosing
pub mod Noting
pub mod Writing
pub mod Sifting
