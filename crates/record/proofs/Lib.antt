-- `Lengths` compares the lengths of records with document 01, `Refusals` has the laws of a table of refusals, `Segments` those of tables one behind the other, `Fields` those of every record,
-- `Ads` and `Entries` those of the two, for the proofs of this crate and of those above it.
pub mod Lengths
pub mod Refusals
pub mod Segments
pub mod Fields
pub mod Ads
pub mod Entries
