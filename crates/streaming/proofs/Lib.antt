pub mod ThroughLaws
pub mod ChunkLaws
pub mod ReadsLaws
