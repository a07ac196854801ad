-- The three demands of the request, a record a demand and call, a field a clause, and what the cards claim beside them. Each speaks of what a proved
-- function gives back, by its contract.
pub mod Demand1
pub mod Demand2
pub mod Demand3
pub mod Estimate
pub mod Rights
