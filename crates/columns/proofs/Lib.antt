-- What the promises of this crate allow.
pub mod Unique
