pub mod OptionLemmas
pub mod ResultRows
pub mod Rows
pub mod UnitLemmas
