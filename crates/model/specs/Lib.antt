-- The definitions of document 01, in its order.
pub mod Bits
pub mod Refusal
pub mod Reason
pub mod Verdict
pub mod Results
pub mod logic
pub mod job
pub mod task
pub mod exploration
pub mod search
pub mod calls
pub mod Cases
