-- A job's transition system (document 01, "Pairs and hints"): what a node is, where actions lead, what is left to pay at the least, and what a
-- search is asked.
pub mod Node
pub mod Estimate
pub mod MaxEstimate
pub mod JobSystem
pub mod Query
