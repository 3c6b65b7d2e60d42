pub mod Folds
pub mod Rules
pub mod Apart
pub mod Search
pub mod Told
