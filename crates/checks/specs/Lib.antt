-- `Request` has what a call is given, `Rows` the table of its refusals.
pub mod Request
pub mod Rows
