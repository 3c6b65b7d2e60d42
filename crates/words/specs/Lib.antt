pub mod Bytes
pub mod Choice
pub mod Lists
pub mod Refusals
pub mod Rooms
