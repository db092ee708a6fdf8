-- The lemmas that show that the reader's one pass gives the computed answer.
pub mod EvaluationLemmas
pub mod PlaceLemmas
pub mod ReaderLemmas
pub mod TermsLemmas
