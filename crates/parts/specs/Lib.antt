pub mod Inputs
pub mod Claims
