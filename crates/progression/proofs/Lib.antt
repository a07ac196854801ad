-- What the proofs of the progression use, and the laws for its callers.
pub mod Padding
pub mod Rows
pub mod Dead
pub mod NumbersLaws
pub mod Lent
pub mod Questions
pub mod EntryLaws
pub mod MemoLaws
