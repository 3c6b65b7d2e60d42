pub mod Laws
pub mod Whole
pub mod Naming
pub mod Steps
pub mod Inside
