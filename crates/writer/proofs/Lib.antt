pub mod FrameLength
pub mod WritingLaws
pub mod Vectors
