pub mod Making
pub mod SlowConversion
pub mod ZeroField
