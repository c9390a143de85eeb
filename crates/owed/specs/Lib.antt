-- What the rooms lend.
pub mod Rooms
-- What becomes of the reader of a stream, and of its line, where the lines are written as they are owed.
pub mod Telling
