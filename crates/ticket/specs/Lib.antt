-- Tickets.
pub mod Tickets
