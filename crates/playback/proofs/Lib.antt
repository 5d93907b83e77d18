-- `Turns` has the laws of the replay's chunks, `Agreeing` compares what is kept with the trace, `Trace` has that the trace's answers are the registrar's, `Records` that its
-- visits are the input's records, `Pieces` that pieces of any length print what the whole does.
pub mod Turns
pub mod Agreeing
pub mod Trace
pub mod Records
pub mod Pieces
