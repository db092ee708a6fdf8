-- What is written to a sink in several calls, and messages that fit into a small buffer.
use Rattle.duration_str_refusals.proofs.Common.{ap, arith, byte_text, Cause, codes, decimal, encode_utf8_all, length, length-append, length-decimal-le, line_of, List, lit<, refl, rules, subst, [], ◌∷◌, ℕ, ◌++◌, ◌<◌, ◌^◌, ◌≡◌, ◌≤◌}
use Rattle.std.proofs.Output.{has_written_append, writes_in_calls_append, writes_in_calls_nil, writes_in_calls_single}
use Rattle.std.specs.Fmt.{formatter_writer, HasWritten, IsPlainFormatter, WritesInCalls}
use Rattle.std.specs.List.{concat, FoldsTo}
use Rattle.std.specs.declared.fmt.Formatter.{Formatter}
use Rattle.duration_str_refusals.specs.declared.layout.Layout.{Layout}
use Rattle.duration_str_refusals.specs.declared.layout.Layout.TheVariants.{Byte, Caret, Line}
use Rattle.duration_str_refusals.specs.Messages.{laid_out}

module _ {W : Type 0} {took : W → List ℕ → W → Type 0} where
  pub in_one_call : {u v : W} {xs ys : List ℕ} → took u xs v → xs ≡ ys → WritesInCalls took u ys v
  in_one_call {u} {v} call e =
      subst (λ (bytes : List ℕ). WritesInCalls took u bytes v) e (writes_in_calls_single took u _ v call)

  pub in_more_calls : {u v w : W} {xs ys zs : List ℕ} → xs ++ ys ≡ zs
      → WritesInCalls took u xs v → WritesInCalls took v ys w → WritesInCalls took u zs w
  in_more_calls {u} {v} {w} e before then =
      subst (λ (bytes : List ℕ). WritesInCalls took u bytes w) e (writes_in_calls_append took u _ v _ w before then)

module _ {W : Type 0} (took : W → List ℕ → W → Type 0) where
  -- what `took` says of a formatter
  abbrev FormatterTook : Formatter W → List ℕ → Formatter W → Type 0
  FormatterTook f bytes g = IsPlainFormatter f → HasWritten took f bytes g

  through : (f : Formatter W) (parts : List (List ℕ)) (g : Formatter W) → FoldsTo FormatterTook f parts g
      → IsPlainFormatter f → HasWritten took f (concat parts) g
  through f [] g same plain = subst (HasWritten took f []) same
      (record { wrote = writes_in_calls_nil took (formatter_writer f); plain = plain })
  through f (part ∷ parts) g calls plain =
      let first = calls.1 plain in
      has_written_append took f part calls.0 (concat parts) g first (through calls.0 parts g calls.2 first.plain)

  pub through_formatter : (f : Formatter W) (bytes : List ℕ) (g : Formatter W)
      → WritesInCalls FormatterTook f bytes g → FormatterTook f bytes g
  through_formatter f bytes g calls plain =
      subst (λ (bytes : List ℕ). HasWritten took f bytes g) calls.whole (through f calls.parts g calls.calls plain)

line_le : (cause : Cause) → length (encode_utf8_all (line_of cause)) ≤ 100
unfolding lib.Utf8.encode
line_le cause = search rules

after_place_le : (place : ℕ) (line : List ℕ) → place < 2 ^ 64 → length line ≤ 100 → length (byte_text place line) ≤ 256
after_place_le place line small short =
    let digits = length-decimal-le 20 place (lit< tt) (omega arith) small in
    omega (arith, short, digits, length-append (decimal place) (codes ": " ++ line))

pub short_without_caret : (layout : Layout) (text line : List ℕ) (cause : Cause)
    → ((place : ℕ) → layout ≡ Byte place → place < 2 ^ 64) → ((spaces : ℕ) → layout ≡ Caret spaces → ⊥)
    → line ≡ encode_utf8_all (line_of cause) → length (laid_out layout text line) ≤ 256
short_without_caret Line text line cause small other e = let short = line_le cause in omega (arith, short, ap length e)
short_without_caret (Byte place) text line cause small other e =
    let short = line_le cause in after_place_le place line (small place refl) (omega (arith, short, ap length e))
short_without_caret (Caret spaces) text line cause small other e = absurd (other spaces refl)
