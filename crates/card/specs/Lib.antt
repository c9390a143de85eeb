-- What the unit reads and writes, in document 01's words.
pub mod Records
pub mod Stream
-- What the reader does with each byte: the promises of its entry points, and of the functions that they call.
pub mod Reading
pub mod Lent
pub mod Running
