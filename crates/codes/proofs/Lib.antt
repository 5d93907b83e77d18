-- `Signed` has the law of signed words, `Words` what the number for an answer says, for the proofs of this crate and of those above it.
pub mod Signed
pub mod Words
