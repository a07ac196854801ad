-- Laws of formulas (specs/logic): truth, progression, normal form, reading.
pub mod TruthLaws
pub mod SatLaws
pub mod PartsLaws
pub mod EachPart
pub mod ProgressionLaws
pub mod ResidualLaws
pub mod OwnPartsLaws
pub mod SettledLaws
pub mod NamesLaws
pub mod NnfLaws
pub mod Codes
pub mod ReadingLaws
pub mod EncodingLaws
