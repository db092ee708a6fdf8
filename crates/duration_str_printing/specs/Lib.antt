pub mod Printing
pub mod Format
pub mod Breakdown
pub mod Rounding
pub mod Internal
pub mod PrintingLaws
