pub mod Limits
pub mod Tests
pub mod Groups
pub mod Refusals
pub mod Relations
pub mod Terms
pub mod Packing
pub mod Laws
