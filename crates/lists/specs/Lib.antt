pub mod ListFaults
pub mod ListRecords
pub mod Lists
pub mod Places
pub mod Walks
