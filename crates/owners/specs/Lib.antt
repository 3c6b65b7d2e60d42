pub mod Table
pub mod Lookups
