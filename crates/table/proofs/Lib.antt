-- Laws of the table's definitions: what the functions' proofs, and those of callers, cite.
pub mod CellLaws
pub mod RowLaws
pub mod SlotLaws
pub mod LookupLaws
pub mod TableLaws
