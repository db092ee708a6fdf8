-- Definitions for private contracts: what each step of cutting and of reading does.
pub mod Rest
pub mod Steps
