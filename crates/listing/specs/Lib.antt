pub mod Faults
pub mod Lines
pub mod Listings
pub mod Text
