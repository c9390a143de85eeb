-- What follows from the definition of opening.
pub mod TableLaws
pub mod OpeningLaws
-- what the number of an answer tells of the rules
pub mod Accepting
-- what the opening functions rest on
pub mod RoomParts
pub mod Legs
pub mod Openings
pub mod OpenUnique
-- what the contracted search rests on
pub mod RowsInPlace
pub mod ContractedUnique
