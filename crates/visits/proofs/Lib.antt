-- `Printing` has the laws of lines, `Playing` those of a visit.
pub mod Printing
pub mod Playing
