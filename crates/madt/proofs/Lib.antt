pub mod Pieces
pub mod Types
pub mod Contents
pub mod Checks
pub mod Walking
pub mod Accepted
