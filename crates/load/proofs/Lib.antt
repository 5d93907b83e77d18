-- `Totals` has the laws of the counts over entries, `Turns` those of walks over records of one width, `Pass` those of the one pass over them, `Checking` those of the check that it is a part of, `Counted` what is not counted and that a withdrawn entry is, for the proofs of this crate and of those above it; `OneWalk` has document 02's order 5.
pub mod Totals
pub mod Turns
pub mod Pass
pub mod Checking
pub mod Counted
pub mod OneWalk
