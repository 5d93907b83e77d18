-- The table of every record, fields of fixed widths, refusals as data, advertisements, and the entries of a cache.
pub mod Layout
pub mod Fields
pub mod Refusals
pub mod Ads
pub mod Entries
