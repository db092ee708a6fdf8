use Rattle.duration_str_laws.proofs.Common.{BlanksFree}
use Rattle.duration_str_reading.proofs.Sentences.AnswerLemmas.{read_sentence, refused_sentence, sentence_refused}

pub blanks_free_holds : BlanksFree
blanks_free_holds = record {
  value = λ r a b lexemes nanos s spells read.
      let found = read_sentence lexemes s read in
      record { lexemes = lexemes; spells = (s.0, spells); evaluates = found.evaluates; value = found.value };
  cause = λ r a b lexemes cause s spells h.
      sentence_refused r b lexemes cause (s.0, spells) (λ place. refused_sentence r a lexemes cause place s h);
}
