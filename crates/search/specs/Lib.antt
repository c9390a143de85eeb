-- What the searches answer, in document 01's words.
pub mod UpDown
pub mod Orders
pub mod Answers
pub mod Witness
-- From here on: the words in which the inner functions speak to each other. No entry point's promise rests on them.
pub mod OneProof
pub mod Graph
pub mod Places
pub mod Labels
pub mod Steps
pub mod Delivery
pub mod Questions
pub mod WitnessSteps
