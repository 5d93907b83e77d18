-- The laws of times, for the crates above.
pub mod Laws
