-- `Words` has the words of SHA-256 and their operations, `Turn` one round.
pub mod Turn
pub mod Words
