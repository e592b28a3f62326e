pub mod Searches
pub mod Says
pub mod Packing
mod Lowest
pub mod Agree
pub mod Uppermost
