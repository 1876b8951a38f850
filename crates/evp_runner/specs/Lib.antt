pub mod Laying
pub mod Outcome
pub mod Passable
pub mod Pieces
pub mod Running
pub mod Sizing
pub mod StepIn
