pub mod Vectors
pub mod NumberLaws
pub mod SignedVectors
pub mod SignedLaws
