mod Examples
pub mod DescriptionLengths
pub mod Framewise
pub mod FilesRead
pub mod FrameAgain
pub mod FrameParts
pub mod FrameSound
pub mod Lists
pub mod ReadBack
pub mod PassedSteps
pub mod Wholes
pub mod WrittenOrder
