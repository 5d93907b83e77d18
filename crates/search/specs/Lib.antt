-- The definitions of this crate.
pub mod Newest
pub mod Place
