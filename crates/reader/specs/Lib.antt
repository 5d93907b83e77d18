-- Input that comes in chunks: how it is read, what is printed of it, how a chunk is gathered, and a program that reads so in the caller's hands.
pub mod Chunks
pub mod Gathering
pub mod Feeding
