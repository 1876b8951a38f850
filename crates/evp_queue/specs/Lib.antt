pub mod Counts
pub mod Flow
pub mod Rule
pub mod Passes
