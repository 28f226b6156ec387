pub mod RecordLaws
pub mod WritingLaws
pub mod ReadingLaws
pub mod BackLaws
pub mod Theorems
pub mod Vectors
