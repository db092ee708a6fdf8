pub mod Answers
pub mod Breakdown
pub mod Format
pub mod Help
pub mod Messages
pub mod Rounding
pub mod Units
