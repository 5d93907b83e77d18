-- A log.
pub mod Log
