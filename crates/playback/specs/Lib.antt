-- The replay of a recorded day in the caller's hands.
pub mod Replay
