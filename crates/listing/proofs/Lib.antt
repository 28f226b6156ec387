pub mod DecimalLaws
pub mod LineLaws
pub mod Vectors
