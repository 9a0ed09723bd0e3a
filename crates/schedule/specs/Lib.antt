pub mod Arrivals
pub mod Example
pub mod Places
pub mod Resources
pub mod Traces
pub mod Windows
