-- `Runs` says what a run is, `Counters` what is counted over one, `Issued` which tickets were issued over one by the call with lower bounds, and `Alike` what caches have in
-- common that differ in nothing but which entries are withdrawn.
pub mod Runs
pub mod Counters
pub mod Issued
pub mod Alike
