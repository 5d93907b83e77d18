-- A simulator's waits compared with ours: a record and its line, and an input of records.
pub mod Records
pub mod Comparing
