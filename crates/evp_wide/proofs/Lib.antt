pub mod Examples
pub mod Windows
pub mod Gathers
pub mod Signs
mod TwoWindows
mod SignLanes
pub mod Blocks
pub mod Turned
pub mod Reordered
pub mod Residues
mod Naturals
mod ZeroBits
mod Gaps
mod SignedNumbers
