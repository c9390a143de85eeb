-- What the unit writes, in document 01's words.
pub mod Text
-- Words in which the inner functions speak to each other. No entry point's promise rests on them.
pub mod TextSteps
