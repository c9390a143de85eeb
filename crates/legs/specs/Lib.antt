-- What a row opens to, and what opening and the contracted search answer, in document 01's words.
pub mod Opening
pub mod Opened
pub mod Answers
-- Words in which the inner functions speak to each other. No entry point's promise rests on them.
pub mod Steps
pub mod InPlace
