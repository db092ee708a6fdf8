pub mod PositionLemmas
pub mod RunLemmas
pub mod SortLemmas
pub mod StepLemmas
pub mod TokenLemmas
