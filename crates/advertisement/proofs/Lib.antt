-- `Messages` has the laws of the message and of what is accepted.
pub mod Messages
