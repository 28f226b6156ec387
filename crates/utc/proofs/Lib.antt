pub mod SizeLaws
pub mod ElapsedLaws
pub mod FloatLaws
pub mod RefusalLaws
pub mod ZeroLaws
pub mod Theorems
pub mod Vectors
