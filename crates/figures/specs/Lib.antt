pub mod Passages
pub mod Piles
pub mod Table
