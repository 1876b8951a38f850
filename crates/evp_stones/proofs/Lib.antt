pub mod Numbered
pub mod Answered
pub mod Complete
pub mod Joined
pub mod Looked
pub mod WroteText
pub mod Mapped
pub mod Checked
pub mod Sources
mod LineExamples
mod OrderExamples
mod ToldExamples
pub mod RecordFiles
pub mod WholeJobs
pub mod SameReport
pub mod OneReport
pub mod Runs
pub mod DecimalNumbers
pub mod Worlds
pub mod LeftOf
pub mod Lines
pub mod Turns
pub mod Pushed
pub mod Converts
pub mod Founds
pub mod Within
pub mod BenchSteps
pub mod BenchExpressions
pub mod BenchFormats
pub mod BenchStones
pub mod BenchRounds
pub mod BenchGraph
pub mod BenchParts
pub mod BenchFiles
pub mod BenchWorks
pub mod TotalSums
pub mod CountedOnce
pub mod JobTotals
pub mod MadeJobs
pub mod FourSources
mod BenchExamples
