-- Definitions for private contracts: the code of a character in its escape.
pub mod Escapes
