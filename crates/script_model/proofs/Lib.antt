pub mod Days
pub mod Joined
pub mod Shown
pub mod Turns
