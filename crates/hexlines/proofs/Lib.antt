pub mod LineLaws
pub mod ByteLaws
pub mod Vectors
