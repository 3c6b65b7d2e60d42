pub mod Used
pub mod Ranges
pub mod Makers
