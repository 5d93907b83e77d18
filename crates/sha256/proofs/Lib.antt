-- `Sizes` has the lengths of a digest and a tag, `Tags` what the comparison of two tags tells, `Masking` that a tag by a key's states is the tag under
-- the key, for the proofs of the crates above.
mod Blocks
pub mod Masking
mod Padding
pub mod Sizes
pub mod Tags
mod Written
