pub mod Back
pub mod Fields
pub mod Put
pub mod Rows
pub mod Split
pub mod Words
