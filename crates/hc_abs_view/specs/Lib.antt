pub mod Trees
pub mod Tokens
pub mod Jumping
pub mod Viewing
pub mod Seen
pub mod Placing
