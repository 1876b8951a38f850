pub mod Few
pub mod Packed
