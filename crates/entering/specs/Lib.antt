-- `Entering` has what the bounds say of a pair and what a ticket leaves in them, `Packing` how records are dropped.
pub mod Entering
pub mod Packing
