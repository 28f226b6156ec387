pub mod Through
pub mod Posts
