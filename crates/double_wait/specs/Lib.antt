-- The wait in doubles.
pub mod Doubles
