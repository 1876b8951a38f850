pub mod Chains
pub mod Passed
mod AmongEnding
mod ElementsLeft
mod Escapes
mod FieldsLeft
pub mod Idle
mod JobParts
mod ReportExamples
mod RoundsLeft
mod RouteFound
mod ShownTallies
