pub mod CacheLemmas
pub mod Common
pub mod LineLemmas
pub mod ProductLemmas
pub mod PromptLemmas
pub mod StoredLemmas
pub mod SumLemmas
