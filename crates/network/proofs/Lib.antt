-- Laws and theorems of the definitions in specs/.
pub mod WeightLaws
pub mod OrderLaws
pub mod RowLaws
pub mod Counting
pub mod Pigeonhole
pub mod Unique
pub mod Bounds
pub mod Scanning
pub mod Checking
pub mod TransferScan
