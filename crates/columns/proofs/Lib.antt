pub mod ColumnLaws
pub mod Theorems
pub mod Vectors
