pub mod Equalities
pub mod Laws
pub mod Name
pub mod NameFields
pub mod Numbers
pub mod Path
pub mod Quoted
