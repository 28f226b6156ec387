pub mod Digest
pub mod Parts
