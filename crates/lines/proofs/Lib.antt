pub mod Counts
pub mod Landing
pub mod Bridges
pub mod Stilling
pub mod NoClash
pub mod Folds
pub mod AtOnce
