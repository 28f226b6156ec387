pub mod SearchLaws
pub mod Theorems
