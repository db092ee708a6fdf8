-- Definitions for contracts inside the library: what is replaced, and words of a help.
pub mod Mends
pub mod Words
