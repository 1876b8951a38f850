pub mod Examples
pub mod Counts
pub mod Flows
pub mod Passes
pub mod Gives
pub mod Takes
pub mod Opens
pub mod Parts
