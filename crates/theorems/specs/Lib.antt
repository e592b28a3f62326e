pub mod Equation
pub mod Examples
