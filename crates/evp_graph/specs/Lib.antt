pub mod Shape
pub mod Search
pub mod Fault
pub mod Ways
pub mod Routes
pub mod Ahead
pub mod Texts
