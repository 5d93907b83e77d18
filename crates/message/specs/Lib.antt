-- What reading and writing the Advertisement message (crates/advertisement) answer.
pub mod Calls
pub mod Written
