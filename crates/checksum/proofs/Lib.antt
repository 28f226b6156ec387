pub mod Vectors
pub mod ChecksumLaws
pub mod Linear
pub mod EntryLaws
