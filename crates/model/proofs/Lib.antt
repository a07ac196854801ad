-- The theorems about the definitions of specs/.
pub mod Tests
pub mod bits
pub mod logic
pub mod task
pub mod exploration
pub mod job
pub mod estimate
pub mod rights
pub mod calls
pub mod Examples
