pub mod Clocks
pub mod Faults
pub mod Fits
pub mod Marks
pub mod Meanings
pub mod PerMarks
pub mod Settings
pub mod Sheets
