-- The bytes of a text before and after the place of a syntax fault, and mends there.
use Rattle.std.specs.List.{prefix_len}
use Rattle.duration_str_laws.proofs.Common.{[], ahead, ap, arith, byte_len, chars, chars-append, chars-encodes, chars-nil, codes, drop, encode_utf8_all, Expected, false, inl, inr, is_blank, is_digit, IsBlank, IsRefused, IsTrue, IsUtf8, IsUtf8-drop, IsUtf8-nil, IsUtf8-take, length, length-take-le, List, list_all, meaning_of, None, Option, refl, Some, Stops, suc, sym, Syntax, take, take-append-drop, terminals_of, TimeUnit, true, zero, ℕ, ◌++◌, ◌+◌, ◌-◌, ◌∙◌, ◌∷◌, ◌≡◌, ◌≢◌, ◌⊎◌}
use Rattle.std.specs.Prelude.{slice_index}
use Rattle.std.proofs.lemmas.List.{drop-drop}
use Rattle.duration_str_help.specs.declared.suggestion.Replacement.{Replacement}
use Rattle.duration_str_help.specs.declared.suggestion.Suggestion.{Suggestion}
use Rattle.duration_str_base.specs.declared.rules.Rules.{Rules as CodeRules}
use Rattle.duration_str_help.specs.Fraction.{end_run}
use Rattle.duration_str_help.specs.Help.{begins_with_letter, help_name, first_piece}
use Rattle.duration_str_help.specs.Mends.{name_alone, nothing, Pieces, pieces_of, suggestion_text}
use Rattle.duration_str_laws.specs.Mended.{IsExactly, said}
use Rattle.std.proofs.Math.Seq.{take-append_seam}
use Rattle.duration_str_help.proofs.MendedHelp.{are_separators, is_separator}
use Rattle.duration_str_help.proofs.MendedBytes.{blank_small, digit_small, end_cut, EndCut, ends_by_last, first_digit, past_small, run_parts, RunParts, small_chars, run_cons, some_end, ends_in}
use Rattle.duration_str_laws.proofs.MendedNames.{name_read, name_scalars, written}
use Rattle.duration_str_laws.proofs.MendedNumbers.{front_begins, IsSeamed, joined_digits, mends, name_said, nothing_seamed}
use Rattle.duration_str_laws.proofs.MendedTokens.{apart_blank, IsApart}
use Rattle.duration_str_base.proofs.CharacterLemmas.{all_weaker, byte_count}
use Rattle.duration_str_reading.proofs.OnePass.PlaceLemmas.{fault_placed}
use Rattle.duration_str_reading.proofs.Sentences.AnswerLemmas.{answer_refused}
use Rattle.duration_str_help.proofs.MendedLemmas.{after_piece, cut_piece, IsCut}

-- What is written stands between the front and the rest. No run goes over its two seams, and some
-- sentence starts with the front and with what is written.
pub record IsInPlace (s : CodeRules) (new : Pieces) : Type 0 where
  pub front_utf8 : IsUtf8 new.front
  pub written_utf8 : IsUtf8 new.written
  pub seamed : IsSeamed (meaning_of s) (chars new.front) (chars new.written) (chars new.rest)

-- A sign between digits is removed, and some sentence starts with the text before these digits and
-- the number that they are then.
pub record IsJoined (s : CodeRules) (new : Pieces) : Type 0 where
  pub separator : (new.replaced ≡ codes "_") ⊎ (new.replaced ≡ codes "'")
  pub removed : new.written ≡ []
  pub front_utf8 : IsUtf8 new.front
  pub before : List ℕ
  pub digits : List ℕ
  pub more : List ℕ
  pub after : List ℕ
  pub front : chars new.front ≡ before ++ digits
  pub rest : chars new.rest ≡ more ++ after
  pub ends : ends_in is_digit before ≡ false
  pub are_digits : IsTrue (list_all is_digit digits)
  pub are_more : IsTrue (list_all is_digit more)
  pub some : digits ≢ []
  pub some_more : more ≢ []
  pub stops : Stops is_digit after
  pub seamed : IsSeamed (meaning_of s) before (digits ++ more) after

-- What is written for a mend, and that it stands for what the suggestion says.
pub record IsMended (s : CodeRules) (text : List ℕ) (replacement : Replacement) : Type 0 where
  pub tokens : IsInPlace s (pieces_of text replacement) ⊎ IsJoined s (pieces_of text replacement)
  pub said : terminals_of (meaning_of s) (chars (suggestion_text replacement.suggestion)) ≡ said replacement.suggestion
  pub exact : (count : ℕ) (unit : TimeUnit) → replacement.suggestion ≡ record { count = Some count; unit = Some unit }
      → IsExactly s (pieces_of text replacement).replaced count unit

-- ---- The place

pub record IsPlaced (s : CodeRules) (text : List ℕ) (place : ℕ) (expected : Expected) : Type 0 where
  pub front_utf8 : IsUtf8 (take place text)
  pub back_utf8 : IsUtf8 (drop place text)
  pub cut : IsCut (drop place text)
  pub long : length (take place text) ≡ place
  pub refused : IsRefused (meaning_of s) (chars (take place text) ++ ahead text place)
      (Syntax (byte_len (chars (take place text))) expected)

pub placed : (s : CodeRules) (text : List ℕ) (place : ℕ) (expected : Expected) → IsUtf8 text
    → IsRefused (meaning_of s) (chars text) (Syntax place expected) → IsPlaced s text place expected
placed s text place expected utf8 refused =
    let r = meaning_of s in
    let boundary = fault_placed r text utf8 ((answer_refused r (chars text) (Syntax place expected)).1 refused) place refl in
    let front_utf8 = IsUtf8-take text place utf8 boundary in
    let back_utf8 = IsUtf8-drop text place utf8 boundary in
    let parts : chars text ≡ chars (take place text) ++ ahead text place =
    rw take-append-drop at (chars-append (take place text) (drop place text) front_utf8) in
    let long : length (take place text) ≡ place = length-take-le place text boundary.0 in
    let wide : byte_len (chars (take place text)) ≡ place = byte_count (take place text) front_utf8 ∙ long in
    record {
      front_utf8 = front_utf8;
      back_utf8 = back_utf8;
      cut = cut_piece (drop place text) back_utf8;
      long = long;
      refused = rw (wide, ← parts) refused;
    }

pub after_place : (text : List ℕ) (place n : ℕ) → drop (place + n) text ≡ drop n (drop place text)
after_place text place n = sym (drop-drop n place text)

abbrev pub piece_at : List ℕ → ℕ → List ℕ
piece_at text place = first_piece (ahead text place)

abbrev pub bytes_at : List ℕ → ℕ → List ℕ
bytes_at text place = encode_utf8_all (piece_at text place)

pub replaced_piece : (text : List ℕ) (place : ℕ) → IsCut (drop place text)
    → take (place + length (bytes_at text place) - place) (drop place text) ≡ bytes_at text place
replaced_piece text place cut =
    let n : place + length (bytes_at text place) - place ≡ length (bytes_at text place) = omega arith in
    rw n (ap (take (length (bytes_at text place))) cut.parts ∙ take-append_seam (bytes_at text place) (after_piece (drop place text)))

-- ---- Something is only removed

no_count : (given : Option TimeUnit) (count : ℕ) (unit : TimeUnit)
    → ◌≡◌ {A = Suggestion} (record { count = None; unit = given }) (record { count = Some count; unit = Some unit }) → ⊥
no_count given count unit is =
    let clash : None ≡ Some count = ap (λ (suggestion : Suggestion). suggestion.count) is in cc clash

nothing_said : (s : CodeRules) → terminals_of (meaning_of s) (chars []) ≡ []
nothing_said s = rw chars-nil refl

pub removed : (s : CodeRules) (text : List ℕ) (place end : ℕ) (expected : Expected) → IsPlaced s text place expected
    → IsApart s.options (chars (take place text)) (chars (drop end text))
    → IsMended s text (record { start = place; end = end; suggestion = nothing })
removed s text place end expected p apart =
    let r = meaning_of s in
    let front = chars (take place text) in
    let begins = front_begins r front (ahead text place) expected p.refused in
    record {
      tokens = inl (record {
        front_utf8 = p.front_utf8;
        written_utf8 = IsUtf8-nil;
        seamed = rw chars-nil (nothing_seamed r front (chars (drop end text)) apart begins);
      });
      said = nothing_said s;
      exact = λ count unit is. absurd (no_count _ count unit is);
    }

pub apart_at_start : (s : CodeRules) (text rest : List ℕ) (place : ℕ) → IsBlank (take place text)
    → IsApart s.options (chars (take place text)) rest
apart_at_start s text rest place blank =
    let own = small_chars (take place text) (all_weaker is_blank _ (take place text) blank_small blank) in
    rw own (apart_blank s.options (take place text) rest blank)

-- ---- A sign between digits is removed

some_digit : (text : List ℕ) (place : ℕ) → is_digit (slice_index text place) ≡ true
    → take (prefix_len is_digit (drop place text)) (drop place text) ≢ []
some_digit [] place digit none = cc digit
some_digit (b ∷ text) zero digit none = cc (rw (run_cons is_digit b text digit) at none)
some_digit (b ∷ text) (suc place) digit none = some_digit text place digit none

pub joined : (s : CodeRules) (text : List ℕ) (place : ℕ) (expected : Expected) → IsPlaced s text place expected
    → is_digit (slice_index (take place text) (length (take place text) - 1)) ≡ true
    → is_digit (slice_index text (place + length (bytes_at text place))) ≡ true → is_separator (bytes_at text place) ≡ true
    → IsMended s text (record { start = place; end = place + length (bytes_at text place); suggestion = nothing })
joined s text place expected p digit next separates =
    let r = meaning_of s in
    let n = length (bytes_at text place) in
    let front = take place text in
    let back = drop (place + n) text in
    let cut : EndCut front = end_cut front p.front_utf8 in
    let run = end_run is_digit front in
    let k = prefix_len is_digit back in
    let more : RunParts is_digit back = run_parts is_digit back in
    let small = all_weaker is_digit _ (take k back) digit_small more.all in
    let back_utf8 : IsUtf8 back = rw (after_place text place n) p.cut.rest_utf8 in
    let after = past_small (take k back) (drop k back) small (rw take-append-drop back_utf8) in
    let some = some_end is_digit front (ends_by_last is_digit front refl ∙ digit) in
    let stops = first_digit (drop k back) after.1 more.stops in
    let refused : IsRefused r ((chars cut.front ++ run) ++ ahead text place) (Syntax (byte_len (chars cut.front ++ run)) expected) =
    rw (← cut.spelled) p.refused in
    record {
      tokens = inr (record {
        separator = rw (replaced_piece text place p.cut) (are_separators (bytes_at text place) separates);
        removed = refl;
        front_utf8 = p.front_utf8;
        before = chars cut.front;
        digits = run;
        more = take k back;
        after = chars (drop k back);
        front = cut.spelled;
        rest = rw take-append-drop at after.0;
        ends = cut.ends;
        are_digits = cut.digits;
        are_more = more.all;
        some = some;
        some_more = some_digit text (place + n) next;
        stops = stops;
        seamed = joined_digits r (chars cut.front) run (take k back) (chars (drop k back)) (ahead text place) expected
            cut.ends cut.digits more.all stops some refused;
      });
      said = nothing_said s;
      exact = λ count unit is. absurd (no_count _ count unit is);
    }

-- ---- A name is written

pub name_written : (s : CodeRules) (text : List ℕ) (place end : ℕ) (u : TimeUnit) (expected : Expected)
    → IsPlaced s text place expected → IsTrue expected.unit_word → begins_with_letter (chars (drop end text)) ≡ false
    → IsMended s text (record { start = place; end = end; suggestion = name_alone u })
name_written s text place end u expected p unit stops =
    let r = meaning_of s in
    let front = chars (take place text) in
    let rest = chars (drop end text) in
    let name = help_name u in
    let own : chars (encode_utf8_all name) ≡ name = chars-encodes name (name_scalars u) in
    record {
      tokens = inl (record {
        front_utf8 = p.front_utf8;
        written_utf8 = (name, (name_scalars u, refl));
        seamed = rw own (mends r front (ahead text place) rest name u expected (written r u) (name_read s u) stops unit p.refused);
      });
      said = ap (terminals_of r) own ∙ name_said r name u (written r u) (name_read s u);
      exact = λ count unit is. absurd (no_count _ count unit is);
    }
