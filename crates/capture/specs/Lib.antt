pub mod Fields
pub mod Pairs
pub mod Rules
pub mod Presence
pub mod Reach
pub mod Memory
