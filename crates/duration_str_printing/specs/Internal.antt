-- Definitions for private contracts: the bytes that are printed.
pub mod PrintedBytes
