-- The promises of this crate are equations, tests and a kind by its byte: what they allow is one result only by these laws and those of the
-- crates below. And a stage has the number that it was made of.
pub mod KindLaws
pub mod StageLaws
