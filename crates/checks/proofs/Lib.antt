-- `Rows` has the laws of REGISTER's segments and what a call that passes satisfies, for the crates above too.
pub mod Rows
