-- What the rules of 01 for lent rooms mean.
pub mod Rooms
