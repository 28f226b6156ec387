pub mod Moving
pub mod Closing
