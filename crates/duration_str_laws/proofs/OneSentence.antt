use Rattle.duration_str_laws.proofs.Common.{arith, List, OneCut, OneSentence, Spells, subst, sym, ℕ, ◌∙◌}
use Rattle.duration_str_reading.proofs.Cutting.TokenLemmas.{tokens_are, tokens_once}
use Rattle.duration_str_reading.proofs.Sentences.SpellingLemmas.{sentence_tokens, tokens_spell}
use Rattle.duration_str_reading.proofs.Sentences.AnswerLemmas.{answer_is_reading_holds, one_reading_holds}

pub one_sentence_holds : OneSentence
one_sentence_holds = record {
  equal =
      λ r text lexemes others s t. sentence_tokens r text lexemes s ∙ sym (sentence_tokens r text others t);
  tokens = λ r text lexemes s. (
    λ spells. sentence_tokens r text lexemes (s, spells),
    λ e. subst (λ (ws : List (List ℕ)). Spells ws text) (sym e) (tokens_spell r.options text),
  );
}

pub one_cut_holds : OneCut
one_cut_holds = search (arith, tokens_are, tokens_once)

pub ruleset each_holds = (one_sentence_holds, one_cut_holds, one_reading_holds, answer_is_reading_holds)
