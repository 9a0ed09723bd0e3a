pub mod Validity
pub mod Labels
pub mod RowLists
pub mod Chunks
pub mod Scans
