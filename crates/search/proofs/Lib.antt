-- `Promises` has what a search promises, `Answers` its refusals, `Last` why the first match met from a cache's end is the newest, `Parts` where its body stands, `Handed` what
-- the calls hand out, in a searcher's words, under the small-registrar profile too, and `Examples` calls that there are; for the proofs of this crate and of those above it.
pub mod Answers
pub mod Last
pub mod Promises
pub mod Parts
pub mod Handed
pub mod Examples
