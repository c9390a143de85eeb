-- What the stored bytes mean.
pub mod Names
