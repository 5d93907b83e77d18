-- `Consequences` has what the call promises in the user's words, `Small` what the small-registrar profile does, `Examples` calls that there are; `Answers` serves the functions' proofs.
pub mod Answers
pub mod Consequences
pub mod Examples
pub mod Small
