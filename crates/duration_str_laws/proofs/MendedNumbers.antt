-- Texts that begin a sentence, with a number, a number and a unit, or nothing after them.
use Rattle.duration_str_laws.proofs.Common.{[], add-zero, allows, and_from, and_parts, ap, append-nil, append_assoc, are_of_one_run, AreTokens, arith, BeginsSentence, Bool, byte_len, cases_Bool, EndsRun, Expected, expected_after, false, false_from_ne_true, goes_on, inl, inr, is_blank, is_digit, is_unit_letter, IsLexeme, IsRefused, IsTrue, last_of, length, length-append, List, list_all, list_all-append, map-append, None, not, number, number_of, operator, Option, Options, other, refl, Rules, Some, Stops, sym, Syntax, take, Terminal, terminal_of, terminals_of, TimeUnit, Token, tokens_from, tokens_of, true, unit_of_word, width, with_first_character, word, ℕ, ◌&&◌, ◌++◌, ◌+◌, ◌||◌, ◌==◌, ◌∙◌, ◌∷◌, ◌≡◌, ◌≢◌, ◌≤◌}
use Rattle.duration_str_help.specs.Help.{begins_with_letter, is_letter}
use Rattle.duration_str_help.specs.Mends.{ends_unit}
use Rattle.duration_str_base.proofs.CharacterLemmas.{byte_len-append, digit-not_letter, letter-not_digit}
use Rattle.duration_str_reading.proofs.Cutting.RunLemmas.{run-not_blank}
use Rattle.duration_str_reading.proofs.Cutting.SortLemmas.{digits_are_lexeme, terminal_cases}
use Rattle.duration_str_reading.proofs.Cutting.TokenLemmas.{tokens_are, tokens_step}
use Rattle.duration_str_laws.proofs.MendedNames.{ends_word, IsWritten, unit_letter_is_letter}
use Rattle.duration_str_laws.proofs.MendedTokens.{apart_blank, apart_last, apart_nothing, apart_past, Begins, cut_before, IsApart, IsCutBefore, length_stand, refused_at, stand_for, starts_over}
use Rattle.duration_str_reading.proofs.Sentences.FrontLemmas.{follows_by_table}
use Rattle.std.proofs.Math.Seq.{take-append_seam}
use Rattle.duration_str_help.proofs.MendedBytes.{ends_in}

-- ---- The tokens of two texts with no run over their seam

moved : (at c : ℕ) (xs ys : List Token) → xs ≢ [] → with_first_character at c (xs ++ ys) ≡ with_first_character at c xs ++ ys
moved at c [] ys some = absurd (some refl)
moved at c (x ∷ xs) ys some = refl

some_first : (at c : ℕ) (xs : List Token) → with_first_character at c xs ≢ []
some_first at c [] = λ e. cc
some_first at c (x ∷ xs) = λ e. cc

some_tokens : (o : Options) (at d : ℕ) (text : List ℕ) → is_blank d ≡ false → tokens_from o at (d ∷ text) ≢ []
some_tokens o at d text solid = elim (cases_Bool (goes_on o d text)) [
  | inl more ↦ rw (solid, more) (some_first at d (tokens_from o (at + width d) text))
  | inr alone ↦ rw (solid, alone) (λ e. cc)
]

pub seamed : (o : Options) (at : ℕ) (text more : List ℕ) → IsApart o text more
    → tokens_from o at (text ++ more) ≡ tokens_from o at text ++ tokens_from o (at + byte_len text) more
seamed o at [] more h = rw add-zero refl
seamed o at (c ∷ []) more h = elim (cases_Bool (is_blank c)) [
  | inl blank ↦ rw (blank, add-zero) refl
  | inr solid ↦ rw (solid, h, add-zero) refl
]
seamed o at (c ∷ d ∷ text) more h =
    let later = seamed o (at + width c) (d ∷ text) more h in
    let start : at + width c + byte_len (d ∷ text) ≡ at + (width c + byte_len (d ∷ text)) = omega arith in
    let later : tokens_from o (at + width c) ((d ∷ text) ++ more)
    ≡ tokens_from o (at + width c) (d ∷ text) ++ tokens_from o (at + (width c + byte_len (d ∷ text))) more =
    later ∙ ap (λ (n : ℕ). tokens_from o (at + width c) (d ∷ text) ++ tokens_from o n more) start in
    elim (cases_Bool (is_blank c)) [
      | inl blank ↦ rw blank later
      | inr solid ↦ elim (cases_Bool (are_of_one_run o c d)) [
        | inl run ↦
            let first = moved at c (tokens_from o (at + width c) (d ∷ text))
            (tokens_from o (at + (width c + byte_len (d ∷ text))) more)
            (some_tokens o (at + width c) d text (run-not_blank o c d run)) in
            rw (solid, run) (ap (with_first_character at c) later ∙ first)
        | inr alone ↦
            rw (solid, alone) (ap (λ (ts : List Token). record { start = at; characters = c ∷ [] } ∷ ts) later)
      ]
    ]

pub no_run : (a b p q : Bool) → a ≡ false → q ≡ false → ((a && b) || (p && q)) ≡ false
no_run a b p q h k = grind arith

pub apart_digit : (o : Options) (text : List ℕ) (d : ℕ) (more : List ℕ) → ends_in is_digit text ≡ false
    → is_digit d ≡ true → IsApart o text (d ∷ more)
apart_digit o [] d more h digit = tt
apart_digit o (c ∷ []) d more h digit =
    no_run (is_digit c) (is_digit d) (is_unit_letter o c) (is_unit_letter o d) h (digit-not_letter o d digit)
apart_digit o (c ∷ e ∷ text) d more h digit = apart_digit o (e ∷ text) d more h digit

neither : (a b : Bool) → ((a && false) || (b && false)) ≡ false
neither a b = grind arith

pub apart_before : (o : Options) (text : List ℕ) (d : ℕ) (rest : List ℕ) → is_digit d ≡ false → is_unit_letter o d ≡ false
    → IsApart o text (d ∷ rest)
apart_before o [] d rest digit letter = tt
apart_before o (c ∷ []) d rest digit letter = rw (digit, letter) (neither (is_digit c) (is_unit_letter o c))
apart_before o (c ∷ e ∷ text) d rest digit letter = apart_before o (e ∷ text) d rest digit letter

pub no_unit_letter : (o : Options) (c : ℕ) → is_letter c ≡ false → is_unit_letter o c ≡ false
no_unit_letter o c none = false_from_ne_true (is_unit_letter o c) (λ t. cc (unit_letter_is_letter o c t, none))

both_false : (a b c : Bool) → not (a || b || c) ≡ true → (a ≡ false) × (b ≡ false)
both_false a b c h = grind arith

pub apart_unless : (o : Options) (text rest : List ℕ) → ends_unit rest ≡ true → IsApart o text rest
apart_unless o text [] ends = apart_nothing o text
apart_unless o text (d ∷ rest) ends =
    let none = both_false (is_letter d) (is_digit d) (d == 46) ends in
    apart_before o text d rest none.1 (no_unit_letter o d none.0)

pub ends_digits : (o : Options) (c : ℕ) (cs rest : List ℕ) → is_digit c ≡ true → Stops is_digit rest → EndsRun o (c ∷ cs) rest
ends_digits o c cs [] digit stops = refl
ends_digits o c cs (d ∷ rest) digit stops = rw (digit, stops, digit-not_letter o c digit) refl

pub digits_token : (o : Options) (at c : ℕ) (cs rest : List ℕ) → IsTrue (list_all is_digit (c ∷ cs)) → Stops is_digit rest
    → tokens_from o at ((c ∷ cs) ++ rest)
    ≡ record { start = at; characters = c ∷ cs } ∷ tokens_from o (at + byte_len (c ∷ cs)) rest
digits_token o at c cs rest digits stops =
    let ends = ends_digits o c cs rest (and_parts (is_digit c) _ digits).0 stops in
    rw add-zero at (tokens_step o at [] (c ∷ cs) rest refl (digits_are_lexeme o c cs digits) ends)

-- ---- A text that ends with a whole token

no_token : (o : Options) (cs blanks left : List ℕ) → IsLexeme o cs → [] ≡ blanks ++ (cs ++ left) → ⊥
no_token o [] blanks left lexeme parts = lexeme
no_token o (c ∷ cs) [] left lexeme parts = cc
no_token o (c ∷ cs) (b ∷ blanks) left lexeme parts = cc

number_ends : (r : Rules) (n w : ℕ) (more : List ℕ) → is_unit_letter r.options w ≡ true → (cs : List ℕ)
    → terminal_of r cs ≡ number n → EndsRun r.options cs (w ∷ more)
number_ends r n w more letter = terminal_cases r (λ cs t. t ≡ number n → EndsRun r.options cs (w ∷ more))
    (λ e. tt) (λ d cs digits e. ends_digits r.options d cs (w ∷ more) (and_parts _ _ digits).0 (letter-not_digit r.options w letter))
    (λ d cs letters e. cc) (λ d op _ _ sign e. cc) (λ d cs _ _ e. cc)

-- A unit can follow directly a text whose last token is a number.
apart_number : (r : Rules) (at n w : ℕ) (text more : List ℕ) (last : Option Terminal) (tokens : List Token)
    → AreTokens r.options at text tokens → last_of last (stand_for r tokens) ≡ Some (number n)
    → is_unit_letter r.options w ≡ true → IsApart r.options text (w ∷ more)
apart_number r at n w text more last [] blank e letter = apart_blank r.options text (w ∷ more) blank
apart_number r at n w text more last (token ∷ tokens) (d ∷ rest, next, are) e letter =
    let later = apart_number r (token.start + byte_len token.characters) n w (d ∷ rest) more (Some (terminal_of r token.characters))
    tokens are e letter in
    rw (next.parts, ← append_assoc) (apart_past r.options (next.blanks ++ token.characters) d rest (w ∷ more) later)
apart_number r at n w text more last (token ∷ []) ([], next, are) e letter =
    let same : terminal_of r token.characters ≡ number n = cc in
    rw (next.parts, append-nil) (apart_last r.options next.blanks token.characters (w ∷ more) next.is_lexeme
    (number_ends r n w more letter token.characters same))
apart_number r at n w text more last (token ∷ second ∷ tokens) ([], next, (left, is, are)) e letter =
    absurd (no_token r.options second.characters is.blanks left is.is_lexeme is.parts)

-- ---- A text that begins a sentence

pub kept : (r : Rules) (front rest : List ℕ) → IsApart r.options front rest → Begins r front → (later : ℕ) (others : Expected)
    → IsRefused r (front ++ rest) (Syntax later others) → byte_len front ≤ later
kept r front rest apart begins later others again = past (front ++ rest) refl again
  where
    past : (text : List ℕ) → text ≡ front ++ rest → IsRefused r text (Syntax later others) → byte_len front ≤ later
    past [] is refused = absurd (cc refused)
    past (c ∷ cs) is (terminals, left, is_front, refused) =
        let o = r.options in
        let before = tokens_of o front in
        let after = tokens_from o (byte_len front) rest in
        let start : 0 + byte_len front ≡ byte_len front = omega arith in
        let cut : tokens_of o (c ∷ cs) ≡ before ++ after = ap (tokens_of o) is ∙ rw start at (seamed o 0 front rest apart) in
        let all : terminals_of r (c ∷ cs) ≡ stand_for r before ++ stand_for r after = rw (cut, map-append, map-append) refl in
        let most : length before ≤ length (terminals_of r (c ∷ cs)) =
        rw (all, length-append) (omega (arith, length_stand r before)) in
        let first : take (length before) (terminals_of r (c ∷ cs)) ≡ stand_for r before =
        rw (all, ← length_stand r before) (take-append_seam (stand_for r before) (stand_for r after)) in
        let long : length before ≤ length terminals = is_front.longest (length before) most (rw first begins) in
        let at_front = refused_at r _ terminals left _ later others refused refl in
        let bytes : byte_len (c ∷ cs) ≡ byte_len front + byte_len rest = ap byte_len is ∙ byte_len-append front rest in
        rw (at_front.0, cut) (starts_over o (length terminals) (byte_len front) (byte_len (c ∷ cs)) rest before after
        (tokens_are o (byte_len front) rest) (omega (arith, bytes)) long)

alone : (o : Options) (at : ℕ) (cs : List ℕ) → IsLexeme o cs
    → tokens_from o at cs ≡ record { start = at; characters = cs } ∷ []
alone o at [] lexeme = absurd lexeme
alone o at (c ∷ cs) lexeme =
    ap (tokens_from o at) (sym (append-nil (c ∷ cs))) ∙ rw add-zero at (tokens_step o at [] (c ∷ cs) [] refl lexeme refl)

one_more : (r : Rules) (text cs : List ℕ) → IsLexeme r.options cs → IsApart r.options text cs
    → terminals_of r (text ++ cs) ≡ terminals_of r text ++ terminal_of r cs ∷ []
one_more r text cs lexeme apart =
    rw (seamed r.options 0 text cs apart, alone r.options (0 + byte_len text) cs lexeme, map-append, map-append) refl

-- No run goes over the seams of three texts, and some sentence starts with the first two.
pub record IsSeamed (r : Rules) (front written rest : List ℕ) : Type 0 where
  pub first : IsApart r.options front written
  pub last : IsApart r.options (front ++ written) rest
  pub begins : Begins r (front ++ written)

pub seamed_tokens : (o : Options) (front middle rest : List ℕ) → IsApart o front middle → IsApart o (front ++ middle) rest
    → tokens_of o (front ++ (middle ++ rest))
    ≡ tokens_of o front ++ (tokens_from o (byte_len front) middle ++ tokens_from o (byte_len front + byte_len middle) rest)
seamed_tokens o front middle rest first last =
    let start : 0 + byte_len front ≡ byte_len front = omega arith in
    let end : 0 + byte_len (front ++ middle) ≡ byte_len front + byte_len middle = omega (arith, byte_len-append front middle) in
    ap (tokens_of o) (sym (append_assoc front middle rest)) ∙ seamed o 0 (front ++ middle) rest last
    ∙ rw (end, seamed o 0 front middle first, start, append_assoc) refl

pub seamed_kept : (r : Rules) (front written rest : List ℕ) → IsSeamed r front written rest → (later : ℕ) (others : Expected)
    → IsRefused r (front ++ (written ++ rest)) (Syntax later others) → byte_len front + byte_len written ≤ later
seamed_kept r front written rest s later others again =
    let least = kept r (front ++ written) rest s.last s.begins later others (rw append_assoc again) in
    omega (arith, least, byte_len-append front written)

pub nothing_seamed : (r : Rules) (front rest : List ℕ) → IsApart r.options front rest → Begins r front
    → IsSeamed r front [] rest
nothing_seamed r front rest apart begins =
    record { first = apart_nothing r.options front; last = rw append-nil apart; begins = rw append-nil begins }

-- A token is written after a text, and some sentence starts with both.
token_seamed : (r : Rules) (text cs rest : List ℕ) → IsLexeme r.options cs → IsApart r.options text cs
    → EndsRun r.options cs rest → BeginsSentence r (terminals_of r text ++ terminal_of r cs ∷ []) → IsSeamed r text cs rest
token_seamed r text cs rest lexeme apart ends begins = record {
  first = apart;
  last = apart_last r.options text cs rest lexeme ends;
  begins = rw (one_more r text cs lexeme apart) begins;
}

pub front_begins : (r : Rules) (front back : List ℕ) (expected : Expected)
    → IsRefused r (front ++ back) (Syntax (byte_len front) expected) → Begins r front
front_begins r front back expected refused = (cut_before r front back expected refused).begins

-- What can follow some terminals depends on neither a number's value nor which unit it is.
same_follows : (r : Rules) (ts : List Terminal) (s t : Terminal) → BeginsSentence r ts
    → (IsTrue (allows (expected_after r (last_of None ts)) s) → IsTrue (allows (expected_after r (last_of None ts)) t))
    → BeginsSentence r (ts ++ s ∷ []) → BeginsSentence r (ts ++ t ∷ [])
same_follows r ts s t begins same h = (follows_by_table r ts t begins).0 (same ((follows_by_table r ts s begins).1 h))

-- ---- A unit after a number

-- A unit is expected only after a number.
after_number : (r : Rules) (last : Option Terminal) → IsTrue (expected_after r last).unit_word
    → (n : ℕ) × (last ≡ Some (number n))
after_number r None h = cc
after_number r (Some (number n)) h = (n, refl)
after_number r (Some (word u)) h = cc
after_number r (Some (operator op)) h = cc
after_number r (Some other) h = cc

pub mends : (r : Rules) (front back rest name : List ℕ) (u : TimeUnit) (expected : Expected) → IsWritten r name
    → unit_of_word r name ≡ Some u → begins_with_letter rest ≡ false → IsTrue expected.unit_word
    → IsRefused r (front ++ back) (Syntax (byte_len front) expected) → IsSeamed r front name rest
mends r front back rest [] u expected is read ends unit refused = absurd is
mends r front back rest (c ∷ cs) u expected (letter, lexeme, names) read ends unit refused =
    let b : IsCutBefore r front back expected = cut_before r front back expected refused in
    let ts = terminals_of r front in
    let (v, begins) = b.can_follow.unit_expected.0 unit in
    let allowed = (follows_by_table r ts (word (Some v)) b.begins).1 begins in
    let (n, last) = after_number r (last_of None ts) (and_parts _ _ allowed).0 in
    let apart = apart_number r 0 n c front cs None (tokens_of r.options front) (tokens_are r.options 0 front) last letter in
    token_seamed r front (c ∷ cs) rest lexeme apart (ends_word r.options c cs rest letter ends)
    (rw (names ∙ ap word read) (same_follows r ts (word (Some v)) (word (Some u)) b.begins (λ h. h) begins))

-- ---- A number after a text

shorter : (r : Rules) (front : List Terminal) (t : Terminal) → BeginsSentence r (front ++ t ∷ []) → BeginsSentence r front
shorter r front t (more, sentence) = (t ∷ more, rw append_assoc at sentence)

other_number : (r : Rules) (ts : List Terminal) (m n : ℕ) → BeginsSentence r (ts ++ number m ∷ [])
    → BeginsSentence r (ts ++ number n ∷ [])
other_number r ts m n h = same_follows r ts (number m) (number n) (shorter r ts (number m) h) (λ h. h) h

-- A number can stand after the text.
abbrev TakesNumber : Rules → List ℕ → Type 0
TakesNumber r text = (n : ℕ) → BeginsSentence r (terminals_of r text ++ number n ∷ [])

number_instead : (r : Rules) (text same : List ℕ) (n : ℕ) → same ≡ text
    → (m : ℕ) × BeginsSentence r (terminals_of r same ++ number m ∷ []) → BeginsSentence r (terminals_of r text ++ number n ∷ [])
number_instead r text same n is (m, begins) = other_number r (terminals_of r text) m n (rw is at begins)

more_digits : (r : Rules) (text cs : List ℕ) (c : ℕ) → ends_in is_digit text ≡ false → IsTrue (list_all is_digit (c ∷ cs))
    → terminals_of r (text ++ c ∷ cs) ≡ terminals_of r text ++ number (number_of (c ∷ cs)) ∷ []
more_digits r text cs c ends digits =
    one_more r text (c ∷ cs) (digits_are_lexeme r.options c cs digits)
    (apart_digit r.options text c cs ends (and_parts (is_digit c) _ digits).0) ∙ rw digits refl

takes_number : (r : Rules) (text digits back : List ℕ) (expected : Expected) → ends_in is_digit text ≡ false
    → IsTrue (list_all is_digit digits) → (digits ≡ [] → IsTrue expected.number)
    → IsRefused r ((text ++ digits) ++ back) (Syntax (byte_len (text ++ digits)) expected) → TakesNumber r text
takes_number r text [] back expected ends digits can refused n =
    number_instead r text (text ++ []) n (append-nil text)
    ((cut_before r (text ++ []) back expected refused).can_follow.number_expected.0 (can refl))
takes_number r text (c ∷ cs) back expected ends digits can refused n =
    other_number r (terminals_of r text) (number_of (c ∷ cs)) n
    (rw (more_digits r text cs c ends digits) at (front_begins r (text ++ c ∷ cs) back expected refused))

-- ---- What is written where a text is cut

last_of_pushed : (last : Option Terminal) (front : List Terminal) (t : Terminal) → last_of last (front ++ t ∷ []) ≡ Some t
last_of_pushed last [] t = refl
last_of_pushed last (s ∷ front) t = last_of_pushed (Some s) front t

pub joined_digits : (r : Rules) (text digits more rest back : List ℕ) (expected : Expected) → ends_in is_digit text ≡ false
    → IsTrue (list_all is_digit digits) → IsTrue (list_all is_digit more) → Stops is_digit rest → digits ≢ []
    → IsRefused r ((text ++ digits) ++ back) (Syntax (byte_len (text ++ digits)) expected)
    → IsSeamed r text (digits ++ more) rest
joined_digits r text [] more rest back expected ends are also stops some refused = absurd (some refl)
joined_digits r text (c ∷ cs) more rest back expected ends are also stops some refused =
    let o = r.options in
    let takes = takes_number r text (c ∷ cs) back expected ends are (λ e. absurd (some e)) refused in
    let first = (and_parts (is_digit c) _ are).0 in
    let digits : list_all is_digit (c ∷ (cs ++ more)) ≡ true =
    list_all-append is_digit (c ∷ cs) more ∙ and_from _ _ are also in
    token_seamed r text (c ∷ (cs ++ more)) rest (digits_are_lexeme o c (cs ++ more) digits)
    (apart_digit o text c (cs ++ more) ends first) (ends_digits o c (cs ++ more) rest first stops)
    (rw digits (takes (number_of (c ∷ (cs ++ more)))))

pub term_in_place : (r : Rules) (text digits back count name rest : List ℕ) (u : TimeUnit) (expected : Expected)
    → ends_in is_digit text ≡ false → IsTrue (list_all is_digit digits) → (digits ≡ [] → IsTrue expected.number)
    → IsTrue (list_all is_digit count) → count ≢ [] → IsWritten r name → unit_of_word r name ≡ Some u
    → begins_with_letter rest ≡ false
    → IsRefused r ((text ++ digits) ++ back) (Syntax (byte_len (text ++ digits)) expected)
    → IsSeamed r text (count ++ name) rest
term_in_place r text digits back [] name rest u expected ends are can new some is read after refused = absurd (some refl)
term_in_place r text digits back (c ∷ cs) [] rest u expected ends are can new some is read after refused = absurd is
term_in_place r text digits back (c ∷ cs) (w ∷ ws) rest u expected ends are can new some (letter, lexeme, names) read after refused =
    let o = r.options in
    let n = number_of (c ∷ cs) in
    let ts = terminals_of r text in
    let whole : (text ++ c ∷ cs) ++ w ∷ ws ≡ text ++ ((c ∷ cs) ++ w ∷ ws) = append_assoc text (c ∷ cs) (w ∷ ws) in
    let takes = takes_number r text digits back expected ends are can refused in
    let first = (and_parts (is_digit c) _ new).0 in
    let stops = ends_digits o c cs (w ∷ ws) first (letter-not_digit o w letter) in
    let apart = apart_last o text (c ∷ cs) (w ∷ ws) (digits_are_lexeme o c cs new) stops in
    let begins : BeginsSentence r ((ts ++ number n ∷ []) ++ word (Some u) ∷ []) =
    (follows_by_table r (ts ++ number n ∷ []) (word (Some u)) (takes n)).0 (rw (last_of_pushed None ts (number n)) refl) in
    let all : terminals_of r ((text ++ c ∷ cs) ++ w ∷ ws) ≡ (ts ++ number n ∷ []) ++ word (Some u) ∷ [] =
    one_more r (text ++ c ∷ cs) (w ∷ ws) lexeme apart ∙ rw (more_digits r text cs c ends new, names ∙ ap word read) refl in
    record {
      first = apart_digit o text c (cs ++ w ∷ ws) ends first;
      last = rw whole at (apart_last o (text ++ c ∷ cs) (w ∷ ws) rest lexeme (ends_word o w ws rest letter after));
      begins = rw (← whole, all) begins;
    }

-- ---- Digits as one token

pub one_number : (o : Options) (at : ℕ) (digits : List ℕ) → IsTrue (list_all is_digit digits) → digits ≢ []
    → tokens_from o at digits ≡ record { start = at; characters = digits } ∷ []
one_number o at [] are some = absurd (some refl)
one_number o at (c ∷ cs) are some = alone o at (c ∷ cs) (digits_are_lexeme o c cs are)

pub number_last : (o : Options) (text digits : List ℕ) → ends_in is_digit text ≡ false → IsTrue (list_all is_digit digits)
    → digits ≢ [] → tokens_of o (text ++ digits) ≡ tokens_of o text ++ record { start = byte_len text; characters = digits } ∷ []
number_last o text [] ends are some = absurd (some refl)
number_last o text (c ∷ cs) ends are some =
    let start : 0 + byte_len text ≡ byte_len text = omega arith in
    seamed o 0 text (c ∷ cs) (apart_digit o text c cs ends (and_parts (is_digit c) _ are).0)
    ∙ rw (start, one_number o (byte_len text) (c ∷ cs) are some) refl

pub number_first : (o : Options) (at : ℕ) (digits rest : List ℕ) → IsTrue (list_all is_digit digits) → digits ≢ []
    → Stops is_digit rest
    → tokens_from o at (digits ++ rest) ≡ record { start = at; characters = digits } ∷ tokens_from o (at + byte_len digits) rest
number_first o at [] rest are some stops = absurd (some refl)
number_first o at (c ∷ cs) rest are some stops = digits_token o at c cs rest are stops

-- ---- What is written stands for what is said

pub name_said : (r : Rules) (name : List ℕ) (u : TimeUnit) → IsWritten r name → unit_of_word r name ≡ Some u
    → terminals_of r name ≡ word (Some u) ∷ []
name_said r [] u is read = absurd is
name_said r (c ∷ cs) u (letter, lexeme, names) read = rw (alone r.options 0 (c ∷ cs) lexeme, names ∙ ap word read) refl

pub term_said : (r : Rules) (count name : List ℕ) (u : TimeUnit) → IsTrue (list_all is_digit count) → count ≢ []
    → IsWritten r name → unit_of_word r name ≡ Some u
    → terminals_of r (count ++ name) ≡ number (number_of count) ∷ word (Some u) ∷ []
term_said r [] name u digits some is read = absurd (some refl)
term_said r (c ∷ cs) [] u digits some is read = absurd is
term_said r (c ∷ cs) (w ∷ ws) u digits some (letter, lexeme, names) read =
    let o = r.options in
    let stops = ends_digits o c cs (w ∷ ws) (and_parts (is_digit c) _ digits).0 (letter-not_digit o w letter) in
    let apart = apart_last o [] (c ∷ cs) (w ∷ ws) (digits_are_lexeme o c cs digits) stops in
    one_more r (c ∷ cs) (w ∷ ws) lexeme apart ∙ rw (more_digits r [] cs c refl digits, names ∙ ap word read) refl
