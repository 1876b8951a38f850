mod Examples
mod FillingExamples
pub mod Added
pub mod Lowered
pub mod Moved
pub mod FormatPlaces
pub mod FilledJobs
pub mod EachFrom
pub mod NamedWalk
pub mod WentOn
pub mod HeadKept
pub mod NamedFormats
pub mod Settable
pub mod StonesKept
pub mod RoundsKept
pub mod PartsKept
pub mod Routed
pub mod TextKept
