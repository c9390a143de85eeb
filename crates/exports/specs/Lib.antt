-- What the C interface promises beyond the core.
pub mod Calls
