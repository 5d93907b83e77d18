-- `Turns` has the laws of the log's chunks, `Pieces` the law that pieces of any length print what the whole does.
pub mod Turns
pub mod Pieces
