pub mod Listing
pub mod Image
pub mod Spelling
pub mod Repeats
pub mod Again
