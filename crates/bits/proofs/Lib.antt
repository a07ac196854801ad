pub mod BitLaws
pub mod TableLaws
pub mod SetLaws
pub mod Substitution
