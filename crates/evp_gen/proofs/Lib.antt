mod Examples
pub mod Decimals
pub mod Pointers
pub mod SentLayouts
pub mod SentRecords
pub mod SentFiles
pub mod SentLengths
pub mod Packed
pub mod Framed
