-- The records of a recorded day, the day played back, the same over a whole input, what is kept of it, and what playing a visit leaves.
pub mod Visits
pub mod Day
pub mod Records
pub mod Memory
pub mod Playing
