-- The definitions of this crate.
pub mod Listed
pub mod Listing
