pub mod Nest
pub mod Replay
