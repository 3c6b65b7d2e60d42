pub mod Arrays
pub mod Logic
pub mod Sooner
pub mod Symmetric
pub mod Searched
pub mod Apart
