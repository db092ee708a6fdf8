pub mod Errors
pub mod Faults
pub mod Messages
pub mod OneLine
pub mod Report
pub mod Internal
