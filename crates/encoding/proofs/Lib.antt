pub mod Words
pub mod Loading
pub mod Reading
