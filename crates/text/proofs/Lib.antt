pub mod Numerals
pub mod Wrote
pub mod Bounds
pub mod ByCase
pub mod Few
pub mod Answers
