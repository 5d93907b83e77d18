-- `Order`, `Promises` and `Buffer` have what a listing promises: who is listed and in which order, and what the buffer has; `Since` what the oldest stamp that is listed
-- does to it, and `Small` what a listing promises under the small-registrar profile, with `Examples` of caches; `Filling` has the laws of a list that is being written, for the proofs of this crate
-- and of those above it.
pub mod Order
pub mod Promises
pub mod Buffer
pub mod Since
pub mod Small
pub mod Examples
pub mod Filling
