-- `Varints` has the laws of varints and of fields that are written one behind the other, for the proofs of this crate and of those above it.
pub mod Varints
