-- The laws of lines.
pub mod Printing
