-- The demands, and what the cards claim beside them, hold of what the contracts promise.
pub mod Results
pub mod Numbered
pub mod Refusing
pub mod RuleReading
pub mod CostSums
pub mod ReadingThrough
pub mod WritingBack
pub mod Exploring
pub mod Lengths
pub mod Uncut
pub mod Answering
pub mod Estimating
pub mod Restricting
