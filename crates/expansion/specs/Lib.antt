-- What the contracts of the expansion cite.
pub mod Arrivals
pub mod Growth
