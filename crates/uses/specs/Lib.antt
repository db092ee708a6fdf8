pub mod Cache
pub mod Common
pub mod Countdown
pub mod Line
pub mod Product
pub mod Sum
