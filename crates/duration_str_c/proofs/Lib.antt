pub mod AnswerLemmas
pub mod BreakdownLemmas
pub mod ResultRows
pub mod RoundingLemmas
pub mod Rows
