pub mod ListChecks
pub mod Seeking
pub mod Slices
pub mod Sounding
pub mod Standing
