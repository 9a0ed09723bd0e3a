pub mod Taken
pub mod Texts
pub mod Written
