-- What document 01 means. A reader must believe these files and nothing else.
pub mod Weight
pub mod Order
pub mod Network
pub mod Sheet
pub mod Rows
pub mod Lent
pub mod Journey
pub mod Refusal
pub mod Answers
-- Words in which the inner functions speak to each other. No entry point's promise rests on them.
pub mod Steps
