-- What the promises of the C interface allow, and what its proofs rest on.
pub mod OneResult
pub mod SheetLaws
pub mod RoomLaws
