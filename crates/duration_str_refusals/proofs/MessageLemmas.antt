-- The message of a fault is UTF-8, and its last byte is no line feed.
use Rattle.duration_str_refusals.proofs.Common.{ap, arith, byte_text, caret_text, Cause, codes, encode_utf8_all, IfSome, IsAscii-decimal, IsCharBoundary, IsCharBoundary-from_ascii, IsUtf8, IsUtf8-append, IsUtf8-from_ascii, last_or, line_of, List, lit<, Option, refl, replicate, replicate-append-replicate, rules, Some, take, take-replicate, [], ℕ, ◌++◌, ◌-◌, ◌<◌, ◌^◌, ◌∙◌, ◌∷◌, ◌≡◌, ◌≢◌, ◌≤◌}
use Rattle.std.proofs.lemmas.List.Elements.{All-replicate}
use Rattle.std.proofs.lemmas.Str.Ascii.{IsAscii-from_all}
use Rattle.duration_str_base.specs.Buffers.{IsInFront}
use Rattle.duration_str_refusals.specs.Messages.{LastLine}

pub front_has : (P : List ℕ → Type 0) (bytes : List ℕ) (result : Option ℕ) (buffer : List ℕ) → P bytes
    → IsInFront bytes result buffer → IfSome result (λ end. P (take end buffer))
front_has P bytes result buffer h there = search rules

pub byte_text_utf8 : (place : ℕ) (line : List ℕ) → place < 2 ^ 64 → IsUtf8 line → IsUtf8 (byte_text place line)
byte_text_utf8 place line small utf8 = search (rules, IsAscii-decimal, IsUtf8-append, IsUtf8-from_ascii)

pub caret_text_utf8 : (text : List ℕ) (spaces : ℕ) (line : List ℕ) → IsUtf8 text → IsUtf8 line
    → IsUtf8 (caret_text text spaces line)
caret_text_utf8 text spaces line utf8 line_utf8 =
    let blanks = IsAscii-from_all (replicate spaces 32) (All-replicate (λ b. b < 128) spaces 32 (lit< tt)) in
    IsUtf8-append text _ utf8
    (IsUtf8-append (codes "\n") _ (IsUtf8-from_ascii (codes "\n") (search rules))
    (IsUtf8-append (replicate spaces 32) _ (IsUtf8-from_ascii (replicate spaces 32) blanks)
    (IsUtf8-append (codes "^\n") line (IsUtf8-from_ascii (codes "^\n") (search rules)) line_utf8)))

last_or-append : (o : Option ℕ) (xs ys : List ℕ) → last_or o (xs ++ ys) ≡ last_or (last_or o xs) ys
last_or-append o [] ys = refl
last_or-append o (x ∷ xs) ys = last_or-append (Some x) xs ys

line_last : (cause : Cause) (o : Option ℕ) → last_or o (encode_utf8_all (line_of cause)) ≢ Some 10
unfolding lib.Utf8.encode
line_last cause o = search rules

pub last_line_holds : LastLine
last_line_holds = search (rules, line_last, last_or-append)

pub run_longer : (n left : ℕ) → 64 < left → left ≤ n
    → ◌++◌ {A = ℕ} (replicate (n - left) 32) (replicate 64 32) ≡ replicate (n - (left - 64)) 32
run_longer n left more h = replicate-append-replicate (n - left) 64 32 ∙ ap (λ (n : ℕ). replicate n 32) (omega arith)

pub run_last : (n left : ℕ) → left ≤ n → ◌++◌ {A = ℕ} (replicate (n - left) 32) (replicate left 32) ≡ replicate n 32
run_last n left within = replicate-append-replicate (n - left) left 32 ∙ ap (λ (n : ℕ). replicate n 32) (omega arith)

pub run_boundary : (count : ℕ) → count ≤ 64 → IsCharBoundary (replicate 64 32) count
run_boundary count h = search (rules, All-replicate, IsAscii-from_all, IsCharBoundary-from_ascii)

pub run_taken : (count : ℕ) → count ≤ 64 → take {A = ℕ} (count - 0) (replicate 64 32) ≡ replicate count 32
run_taken count h = let e : count - 0 ≡ count = omega arith in rw e (take-replicate count 64 32 h)
