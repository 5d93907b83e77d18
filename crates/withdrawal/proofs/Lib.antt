-- `Marking` has the laws of the first record that passes a test, `Withdrawing` those of WITHDRAW, for the proofs of this crate and of those above it; `Taken` says whose
-- entry it takes, and when it answers 17, and `Small` what the small-registrar profile changes.
pub mod Marking
pub mod Withdrawing
pub mod Taken
pub mod Small
