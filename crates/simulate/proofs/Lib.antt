pub mod Columns
pub mod Entries
pub mod Promises
pub mod Requests
pub mod Texts
pub mod Walks
