pub mod Lengths
pub mod MadeSoFar
mod Texts
mod Zeros
