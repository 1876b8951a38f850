pub mod Finding
pub mod Known
pub mod Met
pub mod Places
