-- Laws of the library's numbers in bytes, for the proofs of the functions.
pub mod Bytes
