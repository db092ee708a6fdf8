-- Rows of definitions that say what calls return: what follows from each in one case. A definition
-- that said less would be refused here.
use denote.Ref.{Bor}
use Rattle.std.specs.Prelude.{ℕ, ◌≡◌, ◌+◌, length, Option, None, Some, slice_range, codes}
use Rattle.std.specs.Str.{chars}
use Rattle.std.proofs.Common.{refl}
use Rattle.std.proofs.lemmas.Option.{same_Some}
use Rattle.duration_str_refusals.specs.Errors.{IsErrorOf}
use Rattle.duration_str_refusals.specs.Faults.{IsSliceOf, IsTokenLen, found_token, token_len}
use Rattle.duration_str_reading.specs.Reading.{IsRefused}
use Rattle.duration_str_reading.specs.Tokens.{Token}
use Rattle.duration_str_base.specs.Rules.{Rules}
use Rattle.duration_str_base.specs.Text.{Bytes}
use Rattle.duration_str_base.specs.declared.options.Options.{Options}
use Rattle.duration_str_base.specs.declared.cause.Cause.{Cause}
use Rattle.duration_str_base.specs.declared.cause.Cause.TheVariants.{Overflow}
use Rattle.duration_str_refusals.specs.declared.error.DError.TheVariants.{OverflowError}

pub overflow_has_no_line : {A : Type 0} → IsErrorOf {A = A} (Overflow None) OverflowError
overflow_has_no_line = refl

pub nothing_is_found : (token : Option Token) → IsSliceOf (codes "1x") token None → token ≡ None
nothing_is_found token is = is

module _ (token : Token) (slice : Bor Bytes) where
  pub found_has_the_characters : IsSliceOf (codes "1x") (Some token) (Some slice) → chars slice.now ≡ token.characters
  found_has_the_characters (p, same, characters, range) = rw (same_Some token p same) characters

  pub found_is_a_slice : IsSliceOf (codes "1x") (Some token) (Some slice)
      → slice.now ≡ slice_range (codes "1x") token.start (token.start + length slice.now)
  found_is_a_slice (p, same, characters, range) = rw (same_Some token p same) range

pub run_has_the_length_of_the_token : (o : Options) (cause : Cause) (len : ℕ) (r : Rules)
    → IsRefused (record r { options = o }) (chars (codes "1x")) cause → IsTokenLen o (codes "1x") cause len
    → len ≡ token_len (found_token o (chars (codes "1x")) cause)
run_has_the_length_of_the_token o cause len r refused is = is r refused
