pub mod View
pub mod Posts
