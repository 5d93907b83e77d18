-- The laws that several proofs cite.
pub mod Ceil
pub mod Growth
pub mod Reduced
pub mod Held
pub mod Bounds
pub mod Laws
