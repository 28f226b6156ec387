pub mod Deciding
pub mod Vectors
pub mod Storing
