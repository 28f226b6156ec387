pub mod Kept
pub mod Resuming
pub mod Account
pub mod Vectors
