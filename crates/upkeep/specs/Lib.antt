-- `Packed` is what expiry writes, `Newcomer` the entry of an ad that is confirmed, `Moves` how many entries changed their place.
pub mod Packed
pub mod Newcomer
pub mod Moves
