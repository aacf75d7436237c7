pub mod Day
pub mod Replies
pub mod Report
pub mod Run
pub mod State
