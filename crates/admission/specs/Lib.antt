-- What REGISTER answers once its checks are passed: `Admission` has the wait and the cache that admission leaves, `Registered` an answer,
-- `Deciding` the answer over a wait. `Ready` serves the proofs.
pub mod Admission
pub mod Registered
pub mod Deciding
pub mod Ready
