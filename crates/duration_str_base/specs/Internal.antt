-- Definitions for contracts between the library's crates: characters at a position, numbers below
-- 2^64, the tables in the code, and what is written to a buffer.
pub mod Numbers
pub mod Positions
pub mod UnitTable
pub mod Writing
