-- Rows of clauses of laws that no caller in `uses` needs: what follows from each in one case. A
-- clause that said less would be refused here.
use Rattle.std.specs.Prelude.{◌≡◌, ℕ, ◌*◌, ◌+◌, ◌^◌, ◌≤◌, List, [], ◌∷◌, ◌++◌, ◌⊎◌, length, map, None, Some, codes, IsTrue}
use Rattle.std.specs.List.{list_all}
use Rattle.duration_str_laws.specs.Laws.{OlderTexts}
use Rattle.duration_str_laws.specs.Mended.{FractionsAreMended, IsBareFraction, IsExactly, HasTokensOf, IsFraction, JoinsNumbers, MendedFractions, MendedTexts, MendedTokens, MendedValues, RefusedTokens, said, terms_around, WrittenIsSaid}
use Rattle.duration_str_base.specs.Options.{off}
use Rattle.duration_str_reading.specs.Reading.{IsRead, IsRefused}
use Rattle.duration_str_reading.specs.Grammar.{IsSentenceOf, number, terminal_of, word}
use Rattle.duration_str_reading.specs.Place.{terminals_of}
use Rattle.duration_str_reading.specs.Tokens.{tokens_from, tokens_of}
use Rattle.duration_str_reading.specs.Value.{terms_of, value_of}
use Rattle.duration_str_base.specs.Text.{is_digit, number_of}
use Rattle.duration_str_laws.specs.Older.{older_rules}
use Rattle.duration_str_base.specs.Rules.{rules_of}
use Rattle.std.proofs.Common.{arith, inl, inr, refl}
use Rattle.duration_str_base.specs.Meaning.{meaning_of}
use Rattle.duration_str_help.specs.Mends.{mend_of, Pieces, suggestion_of}
use Rattle.duration_str_base.specs.declared.cause.Cause.{Cause}
use Rattle.duration_str_base.specs.declared.cause.Cause.TheVariants.{Syntax}
use Rattle.duration_str_base.specs.declared.cause.Expected.{Expected}
use Rattle.duration_str_base.specs.declared.rules.Rules.{Rules as CodeRules}
use Rattle.duration_str_base.specs.declared.table.UnitTable.TheVariants.{Own}
use Rattle.duration_str_base.specs.declared.unit.TimeUnit.TheVariants.{Hour, MilliSecond, Minute, Second}
use Rattle.duration_str_base.specs.declared.unit.TimeUnit.{TimeUnit}
use Rattle.std.specs.Str.{chars}
use lib.Utf8.{encode}

pub older_lexemes_have_the_same_terminals : (lexemes : List (List ℕ)) → OlderTexts
    → IsSentenceOf (older_rules off) lexemes (codes "1m")
    → map (terminal_of (older_rules off)) lexemes ≡ map (terminal_of (rules_of off)) lexemes
older_lexemes_have_the_same_terminals lexemes law = law.terminals off lexemes (codes "1m")

pub older_sentence_is_a_sentence : (lexemes : List (List ℕ)) → OlderTexts
    → IsSentenceOf (older_rules off) lexemes (codes "1m") → IsSentenceOf (rules_of off) lexemes (codes "1m")
older_sentence_is_a_sentence lexemes law = law.sentence off lexemes (codes "1m")

abbrev own_rules : CodeRules
own_rules = record { table = Own; default_unit = Some Second; options = off }

pub mended_text_fails_past_what_is_written : (new : Pieces) (later : ℕ) (cause : Cause) (others : Expected) → MendedTexts
    → IsRefused (meaning_of own_rules) (chars (codes "1.5h 3 hrs")) cause
    → mend_of (meaning_of own_rules) (codes "1.5h 3 hrs") cause ≡ Some new
    → IsRefused (meaning_of own_rules) (chars (new.front ++ (new.written ++ new.rest))) (Syntax later others)
    → length new.front + length new.written ≤ later
unfolding encode
mended_text_fails_past_what_is_written new later cause others law refused is =
    law own_rules (codes "1.5h 3 hrs") cause new (codes "1.5h 3 hrs", (refl, refl)) refused is later others

pub word_follows_its_number : HasTokensOf off (codes "12 h") (codes "12 ") (codes "h") []
unfolding chars
word_follows_its_number = refl

pub removed_point_leaves_its_neighbours : HasTokensOf off (codes "5 min 3s") (codes "5 min") [] (codes " 3s")
unfolding chars
removed_point_leaves_its_neighbours = refl

pub a_thousand_seconds_are_joined :
    JoinsNumbers off (record { front = codes "1"; replaced = codes "_"; written = []; rest = codes "000s" })
unfolding chars
a_thousand_seconds_are_joined = record {
  separator = inl refl;
  removed = refl;
  before = [];
  start = 0;
  digits = codes "1";
  more = codes "000";
  after = record { start = 4; characters = codes "s" } ∷ [];
  are_digits = refl;
  front = refl;
  rest = refl;
  joined = refl;
}

pub refused_text_has_the_tokens_of_its_parts : (new : Pieces) (cause : Cause) → RefusedTokens
    → IsRefused (meaning_of own_rules) (chars (codes "2*1.5h+1_000s")) cause
    → mend_of (meaning_of own_rules) (codes "2*1.5h+1_000s") cause ≡ Some new
    → tokens_of off (chars (codes "2*1.5h+1_000s"))
    ≡ tokens_of off (chars new.front) ++ (tokens_from off (length new.front) (chars new.replaced)
    ++ tokens_from off (length new.front + length new.replaced) (chars new.rest))
unfolding encode
refused_text_has_the_tokens_of_its_parts new cause law refused is =
    law own_rules (codes "2*1.5h+1_000s") cause new (codes "2*1.5h+1_000s", (refl, refl)) refused is

pub mended_text_keeps_tokens_at_their_places : (new : Pieces) (cause : Cause) → MendedTokens
    → IsRefused (meaning_of own_rules) (chars (codes "2*1.5h+1_000s")) cause
    → mend_of (meaning_of own_rules) (codes "2*1.5h+1_000s") cause ≡ Some new
    → (tokens_of off (chars (new.front ++ (new.written ++ new.rest)))
    ≡ tokens_of off (chars new.front) ++ (tokens_from off (length new.front) (chars new.written)
    ++ tokens_from off (length new.front + length new.written) (chars new.rest)))
    ⊎ JoinsNumbers off new
unfolding encode
mended_text_keeps_tokens_at_their_places new cause law refused is =
    law own_rules (codes "2*1.5h+1_000s") cause new (codes "2*1.5h+1_000s", (refl, refl)) refused is

pub joined_number_has_the_digits_of_both : (new : Pieces) (j : JoinsNumbers off new)
    → ((new.replaced ≡ codes "_") ⊎ (new.replaced ≡ codes "'")) × (new.written ≡ [])
    × IsTrue (list_all is_digit (j.digits ++ j.more))
    × (tokens_of off (chars new.front) ≡ j.before ++ record { start = j.start; characters = j.digits } ∷ [])
    × (tokens_from off (length new.front) (chars new.rest) ≡ record { start = length new.front; characters = j.more } ∷ j.after)
    × (tokens_of off (chars (new.front ++ (new.written ++ new.rest)))
    ≡ j.before ++ record { start = j.start; characters = j.digits ++ j.more } ∷ j.after)
joined_number_has_the_digits_of_both new j = (j.separator, j.removed, j.are_digits, j.front, j.rest, j.joined)

pub written_term_is_a_number_and_a_unit : (new : Pieces) (cause : Cause) → WrittenIsSaid
    → IsRefused (meaning_of own_rules) (chars (codes "1.5h")) cause → mend_of (meaning_of own_rules) (codes "1.5h") cause ≡ Some new
    → suggestion_of (meaning_of own_rules) (codes "1.5h") cause ≡ Some (record { count = Some 90; unit = Some Minute })
    → terminals_of (meaning_of own_rules) (chars new.written) ≡ number 90 ∷ word (Some Minute) ∷ []
unfolding encode
written_term_is_a_number_and_a_unit new cause law refused is suggested =
    law own_rules (codes "1.5h") cause new (record { count = Some 90; unit = Some Minute }) (codes "1.5h", (refl, refl)) refused is suggested

pub written_name_is_a_unit : said (record { count = None; unit = Some Minute }) ≡ word (Some Minute) ∷ []
written_name_is_a_unit = refl

hour_and_a_half : IsFraction own_rules (codes "1.50 h") (codes "1") (codes "50") Hour
unfolding chars
hour_and_a_half = record {
  blanks = codes " ";
  word = codes "h";
  parts = refl;
  whole_digits = refl;
  decimal_digits = refl;
  some_decimal = omega arith;
  blank = refl;
  means = refl;
}

-- A number with each digit before and after its point, and a word that is near a unit.
pub any_digits_blanks_and_words : IsFraction own_rules (codes "0123456789.0123456789\t mins") (codes "0123456789")
    (codes "0123456789") Minute
unfolding chars
any_digits_blanks_and_words = record {
  blanks = codes "\t ";
  word = codes "mins";
  parts = refl;
  whole_digits = refl;
  decimal_digits = refl;
  some_decimal = omega arith;
  blank = refl;
  means = refl;
}

pub fraction_without_digits_before_its_point : IsFraction own_rules (codes ".5h") [] (codes "5") Hour
unfolding chars
fraction_without_digits_before_its_point = record {
  blanks = [];
  word = codes "h";
  parts = refl;
  whole_digits = refl;
  decimal_digits = refl;
  some_decimal = omega arith;
  blank = refl;
  means = refl;
}

pub mended_fraction_is_read_as_its_value : (new : Pieces) (cause : Cause) → MendedFractions
    → IsRefused (meaning_of own_rules) (chars (codes "1.50 h")) cause
    → mend_of (meaning_of own_rules) (codes "1.50 h") cause ≡ Some new
    → (nanos : ℕ) × IsRead (meaning_of own_rules) (chars (new.front ++ (new.written ++ new.rest))) nanos
    × (nanos * 100 ≡ 150 * 3_600_000_000_000)
unfolding encode
mended_fraction_is_read_as_its_value new cause law refused is =
    law own_rules (codes "1.50 h") (codes "1") (codes "50") Hour cause new (codes "1.50 h", (refl, refl)) hour_and_a_half refused is

pub exact_fraction_has_a_mend : (place : ℕ) (expected : Expected) → FractionsAreMended
    → IsRefused (meaning_of own_rules) (chars (codes "1.50 h")) (Syntax place expected)
    → (new : Pieces) × (mend_of (meaning_of own_rules) (codes "1.50 h") (Syntax place expected) ≡ Some new)
    × (new.front ≡ []) × (new.rest ≡ [])
unfolding encode
exact_fraction_has_a_mend place expected law refused =
    law own_rules (codes "1.50 h") (codes "1") (codes "50") Hour place expected 5_400_000_000_000 (codes "1.50 h", (refl, refl))
    hour_and_a_half refused refl (omega arith)

second_and_a_half : IsBareFraction own_rules (codes "1.5") (codes "1") (codes "5") Second
second_and_a_half = record {
  parts = refl;
  digits = refl;
  some = omega arith;
  default = refl;
}

pub fraction_with_its_unit_is_exactly_its_minutes : IsExactly own_rules (codes "1.50 h") 90 Minute
fraction_with_its_unit_is_exactly_its_minutes =
    record { whole = codes "1"; decimals = codes "50"; unit = Hour; fraction = inl hour_and_a_half; exact = refl }

pub fraction_without_a_unit_is_exactly_its_milliseconds : IsExactly own_rules (codes "1.5") 1500 MilliSecond
fraction_without_a_unit_is_exactly_its_milliseconds =
    record { whole = codes "1"; decimals = codes "5"; unit = Second; fraction = inr second_and_a_half; exact = refl }

abbrev rules_of_hours : CodeRules
rules_of_hours = record { table = Own; default_unit = Some Hour; options = off }

hour_and_a_half_without_its_unit : IsBareFraction rules_of_hours (codes "1.5") (codes "1") (codes "5") Hour
hour_and_a_half_without_its_unit = record {
  parts = refl;
  digits = refl;
  some = omega arith;
  default = refl;
}

pub fraction_without_a_unit_is_exactly_its_hours : IsExactly rules_of_hours (codes "1.5") 90 Minute
fraction_without_a_unit_is_exactly_its_hours =
    record { whole = codes "1"; decimals = codes "5"; unit = Hour; fraction = inr hour_and_a_half_without_its_unit; exact = refl }

pub counted_term_is_exactly_the_fraction : (text : List ℕ) (count : ℕ) (counted : TimeUnit) (e : IsExactly own_rules text count counted)
    → (IsFraction own_rules text e.whole e.decimals e.unit ⊎ IsBareFraction own_rules text e.whole e.decimals e.unit)
    × (count * ((meaning_of own_rules).table counted).nanos * 10 ^ length e.decimals
    ≡ number_of (e.whole ++ e.decimals) * ((meaning_of own_rules).table e.unit).nanos)
counted_term_is_exactly_the_fraction text count counted e = (e.fraction, e.exact)

pub bare_fraction_has_the_default_unit : (text whole decimals : List ℕ) (unit : TimeUnit)
    → IsBareFraction own_rules text whole decimals unit
    → (text ≡ whole ++ (codes "." ++ decimals)) × IsTrue (list_all is_digit (whole ++ decimals)) × (1 ≤ length decimals)
    × (Some Second ≡ Some unit)
bare_fraction_has_the_default_unit text whole decimals unit bare = (bare.parts, bare.digits, bare.some, bare.default)

-- `2*90min` is 3 hours.
pub written_term_is_in_the_product :
    value_of (terms_around (meaning_of own_rules)
    (record { front = codes "2*"; replaced = codes "1.5h"; written = codes "90min"; rest = [] }) 90 Minute)
    ≡ Some 10_800_000_000_000
unfolding chars
written_term_is_in_the_product = refl

-- `1h 90s ` is an hour and 90 seconds.
pub written_term_is_in_the_sum :
    value_of (terms_around (meaning_of own_rules)
    (record { front = codes "1h "; replaced = codes "1.5m"; written = codes "90s"; rest = codes " " }) 90 Second)
    ≡ Some 3_690_000_000_000
unfolding chars
written_term_is_in_the_sum = refl

pub mended_product_has_the_written_term : (new : Pieces) (cause : Cause) (nanos : ℕ) → MendedValues
    → let r = meaning_of own_rules in
    IsRefused r (chars (codes "2*1.5h")) cause → mend_of r (codes "2*1.5h") cause ≡ Some new
    → suggestion_of r (codes "2*1.5h") cause ≡ Some (record { count = Some 90; unit = Some Minute })
    → IsRead r (chars (new.front ++ (new.written ++ new.rest))) nanos
    → IsExactly own_rules new.replaced 90 Minute
    × (value_of (terms_of r (terminals_of r (chars new.front) ++ number 90 ∷ word (Some Minute) ∷ [])
    ++ terms_of r (terminals_of r (chars new.rest))) ≡ Some nanos)
unfolding encode
mended_product_has_the_written_term new cause nanos law refused is suggested read =
    let holds = law own_rules (codes "2*1.5h") cause new 90 Minute (codes "2*1.5h", (refl, refl)) refused is suggested in
    (holds.0, holds.1 nanos read)
