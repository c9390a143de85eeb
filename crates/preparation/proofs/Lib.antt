-- What follows from the definition of the prepared table.
pub mod SortedLists
pub mod PreparedUnique
pub mod WeightMore
pub mod Walks
pub mod PastNode
pub mod SimpleWalks
pub mod RemainingTurns
pub mod StandingRows
pub mod OneTurn
pub mod PreparedSound
-- what preparation rests on
pub mod ColumnLaws
pub mod MarkedRows
pub mod TurnOrder
pub mod Turning
pub mod PrepareRefusals
pub mod LeastNoted
pub mod LentRows
pub mod SiftingLaws
pub mod WitnessMeaning
pub mod Preparation
-- what its promise allows and gives
pub mod PrepareUnique
pub mod TableMade
-- a room that is lent on
pub mod SameRoomLaws
