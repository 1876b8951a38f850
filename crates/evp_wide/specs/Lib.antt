pub mod Groups
pub mod Gathered
pub mod Elements
pub mod Masks
pub mod Zeros
pub mod Blocks
pub mod Counts
