-- `Bits` has the laws of shared leading bits, `Words` those of addresses in words, `Levels` those of the points, for the proofs of this crate and of those above it.
pub mod Bits
pub mod Words
pub mod Levels
