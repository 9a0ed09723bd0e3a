pub mod Checks
pub mod Entries
pub mod Passing
pub mod Piles
