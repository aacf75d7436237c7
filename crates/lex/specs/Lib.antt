pub mod Faults
pub mod Lines
pub mod NextLine
pub mod Runs
pub mod Tokens
