-- The stream that is read, and the theorem that the text written is the text that it owes.
pub mod RecordBytes
pub mod ToldLines
pub mod Invariant
pub mod SimpleOutcomes
pub mod NetworkOutcomes
pub mod QuestionOutcomes
pub mod StreamTheorem
-- what the functions of the reader rest on, and that their promises allow one result
pub mod ReadingSteps
pub mod FedUnique
