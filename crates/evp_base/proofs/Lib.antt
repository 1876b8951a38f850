mod Examples
pub mod Complement
pub mod Digits
pub mod NameLemmas
pub mod Numbers
pub mod Words
