-- `Compression` has the compression of a block.
pub mod Compression
