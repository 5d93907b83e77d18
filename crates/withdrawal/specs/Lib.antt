-- `Marking` has the first of some records that passes a test, `Withdrawing` WITHDRAW.
pub mod Marking
pub mod Withdrawing
