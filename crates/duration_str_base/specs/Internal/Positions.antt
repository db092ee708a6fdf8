-- Positions in a text, the characters between two positions, and the packed numbers of letters.
use Rattle.std.specs.Prelude.{◌≡◌, ℕ, ◌+◌, ◌*◌, ◌%◌, ◌^◌, Bool, false, ◌&&◌, [], ◌∷◌, ◌++◌, IsTrue, ⊤, ◌==◌, if◌then◌else◌, chars, drop}
use Rattle.std.specs.List.{list_all}
use Rattle.std.specs.Char.{is_ascii_alphabetic, is_ascii_uppercase}
use Rattle.duration_str_base.specs.Text.{Bytes, Characters, width, byte_len, chinese_letters, is_digit, is_unit_letter, number_of}
use Rattle.duration_str_base.specs.declared.options.Options.{Options}

-- the characters of these bytes from byte `place` on
abbrev pub ahead : Bytes → ℕ → Characters
ahead text place = chars (drop place text)

-- The character c is at byte `place`, and `next` is the byte after it.
pub record StandsAt (text : Bytes) (place next c : ℕ) : Type 0 where
  pub head : ahead text place ≡ c ∷ ahead text next
  pub bytes : next ≡ place + width c

abbrev pub Stands : Bytes → ℕ → ℕ → Type 0
Stands text place c = StandsAt text place (place + width c) c

pub record Between (text : Bytes) (place next : ℕ) (characters : Characters) : Type 0 where
  pub cut : ahead text place ≡ characters ++ ahead text next
  pub bytes : next ≡ place + byte_len characters

-- The text is empty, or its first character fails the test.
abbrev pub Stops : (ℕ → Bool) → Characters → Type 0
Stops test [] = ⊤
Stops test (c ∷ _) = test c ≡ false

pub record Passes (test : ℕ → Bool) (text : Bytes) (place next : ℕ) : Type 0 where
  pub characters : Characters
  pub between : Between text place next characters
  pub all : IsTrue (list_all test characters)

-- the digit for a character of this list, whose first character has the digit n, the next n + 1,
-- and so on. It is 0 for any other character
abbrev pub number_in : ℕ → Characters → ℕ → ℕ
number_in n [] c = 0
number_in n (d ∷ letters) c = if d == c then n else number_in (n + 1) letters c

-- the digit for a unit letter beyond ASCII, and 0 for any other character
abbrev pub wide_number : ℕ → ℕ
wide_number c = number_in 27 (0xB5 ∷ chinese_letters) c

-- the digit for a capital under `lowercase`. `M` has 39, which no other letter has. The others have
-- the digit of `z`, which is in no name
abbrev pub capital_number : ℕ → ℕ
capital_number c = if c == 77 then 39 else 26

-- the digit for a unit letter. Without `lowercase`, a capital has the same digit as its small
-- letter
abbrev pub letter_number : Options → ℕ → ℕ
letter_number o c =
    if o.lowercase && is_ascii_uppercase c then capital_number c
    else if is_ascii_alphabetic c then c % 32 else wide_number c

-- the packed number n with these unit letters after it, as digits to the base 40
abbrev pub packed_number_after : Options → ℕ → Characters → ℕ
packed_number_after o n [] = n
packed_number_after o n (c ∷ letters) = packed_number_after o (n * 40 + letter_number o c) letters

abbrev pub packed_number : Options → Characters → ℕ
packed_number o letters = packed_number_after o 0 letters

pub record TakesDigits (text : Bytes) (place next value : ℕ) : Type 0 where
  pub run : Passes is_digit text place next
  pub number : value ≡ number_of run.characters % 2 ^ 64

pub record TakesLetters (o : Options) (text : Bytes) (place next value : ℕ) : Type 0 where
  pub run : Passes (is_unit_letter o) text place next
  pub number : value ≡ packed_number o run.characters % 2 ^ 64
