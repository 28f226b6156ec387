pub mod CountLaws
pub mod OnceLaws
pub mod ChainLaws
