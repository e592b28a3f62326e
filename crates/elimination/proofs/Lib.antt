pub mod Prefixes
pub mod Locality
pub mod Reduction
pub mod Solutions
pub mod Needs
pub mod LineUps
pub mod Declared
pub mod Verdict
pub mod LinkSets
pub mod Order
pub mod ChoiceTables
pub mod Solved
pub mod Tried
mod Undeclared
mod LinkSteps
mod FromFn
mod Gathered
pub mod Leads
pub mod Filled
pub mod Accepting
