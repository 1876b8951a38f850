pub mod Lists
pub mod Paths
pub mod Faults
pub mod Cycles
pub mod Visits
pub mod Onward
pub mod Listed
mod Examples
