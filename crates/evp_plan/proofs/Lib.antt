mod Agreeing
mod Alikes
mod Arrays
mod Conversions
mod Defaults
mod Each
mod ElementsAgree
mod FieldsInside
mod Examples
mod Known
mod Meaning
mod NoClash
pub mod Programs
mod Readiness
mod Sent
mod SingleNumbers
mod Sounds
mod Tables
pub mod FittingWords
pub mod NumberCells
pub mod Painting
pub mod Gathered
mod AllGathers
mod Paired
mod PairExamples
mod OneGather
mod Apart
mod Plain
pub mod Painted
mod WordLists
mod CutWords
mod FillLists
mod LaneLists
mod Reaches
mod CutFills
pub mod Compiled
mod QuietExamples
mod WordExamples
mod FillExamples
pub mod QuietLists
pub mod QuietSteps
mod FourLists
pub mod PutAt
pub mod NumbersPut
pub mod LaidFronts
pub mod PiecesApart
pub mod LaidPieces
mod LaidExamples
mod LaidSteps
mod MovesWithin
