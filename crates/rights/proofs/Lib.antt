-- What an accepted call says to its callers.
pub mod AcceptedCalls
