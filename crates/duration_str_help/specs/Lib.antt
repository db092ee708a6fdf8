pub mod Fraction
pub mod Help
pub mod Mends
pub mod Quotes
pub mod Internal
