-- What the contracts of the paths cite.
pub mod Chain
