pub mod Scan
pub mod AsAnswered
pub mod Reading
pub mod Entries
