-- `Tickets` has the laws of a ticket, for the proofs of this crate and of those above it.
pub mod Tickets
