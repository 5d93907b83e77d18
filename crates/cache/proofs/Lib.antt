-- `Chunks` has the laws of records that lie one behind the other, `Walk` those of a walk over them, `Expiry` those of live entries, `Check` those of
-- the check, `Looking` those of its walk, `Around` those of its two parts; `Cache` says that what is built reads back and is well formed, `Contents` that what each operation leaves is, `Counters` what its counters gain, `Shapes` and `Small` which shapes a call chooses, and `Rows`
-- what is true where refusals 1 and 3 are not given, for the proofs of this crate and of those above it.
pub mod Chunks
pub mod Walk
pub mod Expiry
pub mod Check
pub mod Looking
pub mod Around
pub mod Cache
pub mod Contents
pub mod Counters
pub mod Shapes
pub mod Small
pub mod Rows
