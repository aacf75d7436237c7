pub mod Replay
pub mod Search
