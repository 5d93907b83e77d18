-- `Tickets` has the laws of the slots, `Tallies` those of the tallies.
pub mod Tickets
pub mod Tallies
