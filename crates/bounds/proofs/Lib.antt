-- `Records` has the laws of a walk over the records, `Conditions` those of the form, `Table`, `Passed` and `Noted` those of the walk that sees that each pair stands once,
-- for the proofs of this crate and of those above it; `Cases` has the form of small buffers, computed.
pub mod Records
pub mod Conditions
pub mod Table
pub mod Passed
pub mod Noted
pub mod Cases
