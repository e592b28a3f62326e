pub mod Limits
pub mod Ledger
pub mod Layout
pub mod Of
pub mod Kept
pub mod RuleTables
pub mod History
pub mod Cards
