pub mod Walks
pub mod Answers
pub mod Runs
pub mod Turns
pub mod Solved
