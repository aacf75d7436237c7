pub mod Lexing
pub mod ReadBack
