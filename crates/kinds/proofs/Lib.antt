pub mod ContentLaws
pub mod RowLaws
pub mod OnlyLaws
pub mod Edges
