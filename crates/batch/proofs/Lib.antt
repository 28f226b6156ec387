pub mod EntryLaws
pub mod ContentsLaws
pub mod LayoutLaws
pub mod TimeLaws
pub mod Theorems
pub mod Vectors
pub mod WalkLaws
