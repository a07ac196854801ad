-- What the contracts of the table cite.
pub mod Cells
pub mod Slots
pub mod Lookup
pub mod Tables
