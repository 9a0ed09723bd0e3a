pub mod Counts
pub mod Piles
pub mod Requests
pub mod Tables
pub mod Tallies
pub mod Timelines
