pub mod Alignments
pub mod Declared
pub mod DeclaredAgain
pub mod Ends
pub mod ExactLayouts
mod FaultExamples
pub mod Formats
pub mod LaidOut
pub mod LayoutExamples
pub mod Multiples
pub mod PlacedTypes
pub mod Placings
pub mod StatedFacts
pub mod Steps
pub mod TypeFacts
pub mod TypesPushed
