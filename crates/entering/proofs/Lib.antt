-- `Told` has what the records tell of a pair, `Packing` and `Written` what entering writes, `Form` that it is well bounded, `Untils` what it does to the untils of pairs and the
-- step of "asking again never shortens a wait", for the proofs of this crate and of those above it; `Cases` has order 12's sentences on small buffers, computed.
pub mod Told
pub mod Packing
pub mod Written
pub mod Form
pub mod Untils
pub mod Cases
