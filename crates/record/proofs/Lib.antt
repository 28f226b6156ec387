pub mod Data
pub mod Answers
pub mod Vectors
