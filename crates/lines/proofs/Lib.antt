-- What follows from the definitions of the text.
pub mod Digits
pub mod Storing
pub mod Lines
