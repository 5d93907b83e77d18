-- `Bodies` has the laws of records and their round trips, `Answering` those of one step.
pub mod Bodies
pub mod Answering
