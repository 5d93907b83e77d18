-- `Counting` has what is in range in every well-formed cache, `Admission` what admission leaves, `Deciding` what a wait decides, for the proofs of this
-- crate and of those above it.
pub mod Counting
pub mod Admission
pub mod Deciding
