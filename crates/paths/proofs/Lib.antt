-- Laws of the paths' definitions: what the functions' proofs, and those of callers, cite.
pub mod ChainLaws
