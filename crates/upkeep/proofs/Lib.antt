-- `Head`, `Opening` and `Change` have the laws of what is written: a head, an opened cache, the entries that stay, and one more; `Newcomer` what that one says. `Moves`
-- has those of how many entries change their place.
pub mod Head
pub mod Opening
pub mod Change
pub mod Newcomer
pub mod Moves
