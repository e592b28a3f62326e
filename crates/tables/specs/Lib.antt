pub mod Limits
pub mod Tables
pub mod Conversion
pub mod NormalForm
