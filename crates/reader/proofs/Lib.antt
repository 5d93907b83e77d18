-- `Splitting` has the laws of input in chunks, `Gathering` those of a chunk in the caller's buffer, `Turns` and `Loop` those of a program's turns and of its
-- loop over a piece, `Pieces` the law that calls with pieces of any length read and print the whole. `Keeping` has what every step keeps,
-- `Alike` compares two readers.
pub mod Splitting
pub mod Gathering
pub mod Turns
pub mod Loop
pub mod Pieces
pub mod Keeping
pub mod Alike
