-- `Facts` has what is known of a record that is in order, `Printed` the lengths of lines, `Turns` the laws of the records as chunks, `Whole` what is printed of whole records
-- and what stands behind them, `Pieces` the law that pieces of any length print what the whole does.
pub mod Facts
pub mod Printed
pub mod Turns
pub mod Whole
pub mod Pieces
