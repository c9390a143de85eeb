-- What the reader of a card stream holds, and how it goes on.
pub mod Reader
