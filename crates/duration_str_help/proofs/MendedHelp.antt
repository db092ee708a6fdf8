-- What is known of the text where a help is given.
use Rattle.duration_str_help.proofs.Common.{and_parts, arith, Bool, bytes_eq, bytes_eq-Decides, cases_Bool, codes, encode_utf8_all, Expected, false, if◌then◌else◌, inl, inr, is_blank, is_digit, IsBlank, IsTrue, length, List, list_all, map, None, not, Option, or_cases, refl, rules, Some, take, TimeUnit, to_ascii_lowercase, true, ℕ, ⊤, ◌&&◌, ◌+◌, ◌-◌, ◌==◌, ◌||◌, ◌≡◌}
use Rattle.std.specs.Prelude.{slice_index, ◌⊎◌}
use Rattle.duration_str_help.specs.declared.help.Help.{Help}
use Rattle.duration_str_help.specs.declared.help.Help.TheVariants.{DidYouMean, DigitsOnly, Fraction, Iso8601, LeadingPlus, NoPoint, Zero}
use Rattle.duration_str_help.specs.Internal.Mends.{offered_unit}
use Rattle.duration_str_help.specs.Help.{digit_help, first_help, help_at, is_unknown_unit, missing_unit_help, near_unit, sign_help, syntax_help, unit_help}

-- whether these bytes are a separator of digits
abbrev pub is_separator : List ℕ → Bool
is_separator piece = bytes_eq piece (codes "_") || bytes_eq piece (codes "'")

pub are_separators : (piece : List ℕ) → is_separator piece ≡ true → (piece ≡ codes "_") ⊎ (piece ≡ codes "'")
are_separators piece is = elim (or_cases (bytes_eq piece (codes "_")) (bytes_eq piece (codes "'")) is) [
  | inl line ↦ inl ((bytes_eq-Decides piece (codes "_")).0 line)
  | inr mark ↦ inr ((bytes_eq-Decides piece (codes "'")).0 mark)
]

-- What the bytes before the piece, the last of them, and the byte after it are like, if this help
-- stems from the place.
abbrev pub IsPlacedHelp : List ℕ → ℕ → ℕ → List ℕ → Option Help → Type 0
IsPlacedHelp before last next piece (Some (DidYouMean unit)) = ⊥
IsPlacedHelp before last next piece (Some Fraction) = bytes_eq piece (codes ".") ≡ true
IsPlacedHelp before last next piece (Some LeadingPlus) = IsBlank before × (bytes_eq piece (codes "+") ≡ true)
IsPlacedHelp before last next piece (Some NoPoint) = bytes_eq piece (codes ".") ≡ true
IsPlacedHelp before last next piece (Some DigitsOnly) =
    (is_digit last ≡ true) × (is_separator piece ≡ true → is_digit next ≡ true)
IsPlacedHelp before last next piece (Some Iso8601) = IsBlank before
IsPlacedHelp before last next piece (Some Zero) = ⊥
IsPlacedHelp before last next piece help = ⊤

-- What is known where this help is given for the piece at a byte.
abbrev pub KnownAt : List ℕ → ℕ → Expected → List ℕ → Option Help → Type 0
KnownAt text place expected piece (Some (DidYouMean unit)) =
    (is_unknown_unit expected piece ≡ true) × (near_unit piece ≡ Some unit)
KnownAt text place expected piece (Some Zero) =
    IsTrue expected.unit_word × (list_all (λ b. b == 48 || is_blank b) text ≡ true)
KnownAt text place expected piece help =
    let before = take place text in
    let bytes = encode_utf8_all piece in
    IsPlacedHelp before (slice_index before (length before - 1)) (slice_index text (place + length bytes)) bytes help

first_holds : (a b : Bool) → (a && b) ≡ true → a ≡ true
first_holds a b h = (and_parts a b h).0

second_holds : (a b : Bool) → (a && b) ≡ true → b ≡ true
second_holds a b h = (and_parts a b h).1

third_holds : (a b c d : Bool) → ((a && b) || (c && d)) ≡ true → b ≡ false → c ≡ true
third_holds a b c d h e = grind arith

module _ (text : List ℕ) (place : ℕ) (expected : Expected) (piece : List ℕ) where
  abbrev bytes : List ℕ
  bytes = encode_utf8_all piece

  abbrev last : ℕ
  last = slice_index (take place text) (length (take place text) - 1)

  abbrev next : ℕ
  next = slice_index text (place + length bytes)

  -- What is known here if this help stems from the place.
  record Here (help : Option Help) : Type 0 where
    is : IsPlacedHelp (take place text) last next bytes help

  either : (b : Bool) (x y : Option Help) → (b ≡ true → Here x) → Here y → Here (if b then x else y)
  either true x y first second = first refl
  either false x y first second = second

  sign_placed : Here (sign_help bytes)
  sign_placed = search (rules, either)

  first_placed : IsBlank (take place text) → Here (first_help bytes next)
  first_placed blank = search (rules, second_holds, either, sign_placed)

  no_exponent : is_separator bytes ≡ true → bytes_eq (map to_ascii_lowercase bytes) (codes "e") ≡ false
  no_exponent separator = elim (are_separators bytes separator) [ inl line ↦ rw line refl | inr mark ↦ rw mark refl ]

  digit_placed : is_digit last ≡ true → Here (digit_help bytes next)
  digit_placed digit = search (rules, third_holds, no_exponent, either, sign_placed)

  placed : Here (help_at expected text place bytes)
  placed = search (rules, first_holds, either, first_placed, digit_placed, sign_placed) depth 8

  known_placed : (help : Option Help) → Here help → KnownAt text place expected piece help
  known_placed None h = tt
  known_placed (Some (DidYouMean unit)) h = absurd h.is
  known_placed (Some Zero) h = absurd h.is
  known_placed (Some help) h = h.is

  known_missing : (help : Option Help) → Here help → KnownAt text place expected piece (missing_unit_help expected text help)
  known_missing (Some help) h = known_placed (Some help) h
  known_missing None h = elim (cases_Bool (expected.unit_word && not (expected.operator || expected.text_end))) [
    | inl missing ↦ elim (cases_Bool (list_all (λ b. b == 48 || is_blank b) text)) [
      | inl zeros ↦ rw (missing, zeros) ((and_parts expected.unit_word _ missing).0, zeros)
      | inr others ↦ rw (missing, others) tt
    ]
    | inr fits ↦ rw fits tt
  ]

  known_unit : (unit : Option TimeUnit) (help : Option Help) → Here help → near_unit piece ≡ unit
      → is_unknown_unit expected piece ≡ true → KnownAt text place expected piece (Some (unit_help unit help))
  known_unit (Some unit) help h near unknown = (unknown, near)
  known_unit None (Some help) h near unknown = known_placed (Some help) h
  known_unit None None h near unknown = tt

  pub known_at : KnownAt text place expected piece (syntax_help text place expected piece)
  known_at = elim (cases_Bool (is_unknown_unit expected piece)) [
    | inl unknown ↦ rw unknown (known_unit (near_unit piece) _ placed refl unknown)
    | inr known ↦ rw known (known_missing _ placed)
  ]

  none_offered : (help : Option Help) → Here help → offered_unit (Some (unit_help None help)) ≡ None
  none_offered None h = refl
  none_offered (Some (DidYouMean unit)) h = absurd h.is
  none_offered (Some help) h = refl

  -- For a word that is no unit, the help offers the unit that it is near.
  pub offered_near : is_unknown_unit expected piece ≡ true
      → offered_unit (syntax_help text place expected piece) ≡ near_unit piece
  offered_near unknown = rw unknown (by (near_unit piece))
    where
      by : (unit : Option TimeUnit) → offered_unit (Some (unit_help unit (help_at expected text place bytes))) ≡ unit
      by (Some unit) = refl
      by None = none_offered _ placed
