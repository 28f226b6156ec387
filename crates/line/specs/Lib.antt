pub mod Frame
pub mod Table
pub mod Record
pub mod Calls
pub mod Steps
pub mod Pieces
pub mod Cases
