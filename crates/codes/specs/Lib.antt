-- The numbers of a C host.
pub mod Codes
