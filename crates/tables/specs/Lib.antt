pub mod Rsdp
pub mod Table
pub mod Xsdt
pub mod Finder
pub mod Survey
pub mod Structures
pub mod Whole
pub mod Naming
