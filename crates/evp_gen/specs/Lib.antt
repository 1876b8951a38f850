pub mod Formats
pub mod Stones
pub mod Document
pub mod Senders
pub mod Laws
pub mod Packed
pub mod Made
