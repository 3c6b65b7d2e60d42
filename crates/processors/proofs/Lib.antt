pub mod ReadAgain
pub mod Filling
pub mod Repeating
pub mod Sharing
pub mod Inside
pub mod Image
pub mod AtMost256
