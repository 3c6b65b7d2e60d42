pub mod Same
pub mod Made
pub mod Entries
pub mod Calls
