pub mod Ranges
pub mod Takings
pub mod Texts
