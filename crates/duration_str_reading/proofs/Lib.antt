pub mod Common
pub mod Cutting
pub mod OnePass
pub mod Rows
pub mod Sentences
pub mod LawRows
pub mod ResultRows
