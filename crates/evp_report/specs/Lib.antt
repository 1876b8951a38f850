pub mod FieldText
pub mod Passing
pub mod Report
pub mod Samples
pub mod Shown
