-- The records of a log, its lines, and what a record is answered.
pub mod Records
pub mod Lines
pub mod Answers
