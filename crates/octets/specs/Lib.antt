-- Numbers in bytes, runs of bytes, and numbers counted.
pub mod Numbers
pub mod Runs
pub mod Counting
