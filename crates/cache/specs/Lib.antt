-- The definitions of this crate.
pub mod Chunks
pub mod Cache
pub mod Opening
pub mod Expiry
pub mod Check
pub mod Rows
