pub mod Pieces
pub mod Sizes
pub mod Rules
pub mod Contents
pub mod Walk
pub mod AsAnswered
pub mod Noting
pub mod Taken
