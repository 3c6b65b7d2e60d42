pub mod Numerals
pub mod Lines
pub mod Text
pub mod Rooms
