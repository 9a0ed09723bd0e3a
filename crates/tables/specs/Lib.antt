pub mod Tables
pub mod Texts
pub mod Written
