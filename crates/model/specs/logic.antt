-- Rules and hints (document 01, "The job" and "Meaning"): formulas, their truth, progression and normal form.
pub mod Formula
pub mod Reading
pub mod Parts
pub mod Truth
pub mod Sat
pub mod Progression
pub mod OwnParts
pub mod Names
pub mod NormalForm
