-- The tickets and tallies that are kept for each advertiser, and what an answer does to them.
pub mod Ledger
