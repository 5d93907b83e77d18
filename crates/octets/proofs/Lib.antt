-- `Runs` has the laws of parts and of parts put in place, `Numbers` those of big-endian numbers, `Words` those of words, `Counting` what a test adds to a count, for the proofs of this crate and of those
-- above it.
pub mod Runs
pub mod Numbers
pub mod Words
pub mod Counting
