-- The three calls (document 01, "Given back"): results and the final contents of every lent slice, on bytes.
pub mod Call
pub mod Search
pub mod Validate
pub mod WriteBack
pub mod Numbers
