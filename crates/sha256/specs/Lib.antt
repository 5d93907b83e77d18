-- SHA-256, HMAC-SHA-256, and when two tags are the same.
pub mod Digest
pub mod Hmac
pub mod Tag
