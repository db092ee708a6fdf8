pub mod AnswerLemmas
pub mod FrontLemmas
pub mod SpellingLemmas
pub mod SumLemmas
