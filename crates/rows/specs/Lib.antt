pub mod Faults
pub mod Refusals
pub mod Rows
pub mod Tables
pub mod Drafts
pub mod Books
