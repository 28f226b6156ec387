pub mod Vectors
pub mod StuffingLaws
pub mod PlainLaws
