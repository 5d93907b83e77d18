-- `Answers` has the laws of the calls' answers, and `RoundTrips` what the calls promise together.
pub mod Answers
pub mod RoundTrips
