pub mod Steps
pub mod Leaves
pub mod Following
pub mod Orders
pub mod Rows
pub mod NextAnswers
pub mod Runs
pub mod Solved
