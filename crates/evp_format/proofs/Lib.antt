pub mod Again
pub mod CountedFields
pub mod CountedReads
pub mod Depths
pub mod DescribedFields
pub mod DescribedFormats
mod DescriptionExamples
pub mod Descriptions
mod Examples
mod LeadExamples
pub mod LaidBases
pub mod LeadFacts
pub mod Lists
pub mod Parts
pub mod Partners
pub mod Paths
pub mod Texts
pub mod TextsInside
pub mod Trees
pub mod ValueViews
pub mod FieldsAgain
pub mod FixedTexts
pub mod FormatsAgain
pub mod Grown
pub mod Loops
pub mod Made
pub mod MadeAll
pub mod MadeItself
pub mod MadeNumbers
pub mod Names
pub mod Places
pub mod Pushed
pub mod Roots
pub mod SameValues
pub mod StatedFields
pub mod KeptTypes
pub mod TypesAgain
pub mod TypeTexts
pub mod WellLaidFormats
pub mod WellLaidTypes
pub mod WideDigits
pub mod WrittenTypes
pub mod ZeroSizes
pub mod Zeros
mod ClashExamples
mod PackExamples
pub mod Clashes
mod ConvertedCounts
mod ConvertedDefaults
mod ConvertedElements
mod ConvertedNumbers
mod FirstFaults
mod ViewExamples
mod Worked
