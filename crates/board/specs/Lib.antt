pub mod Calls
pub mod Chains
pub mod Example
pub mod Faults
pub mod Guarantee
pub mod Rules
pub mod Runs
