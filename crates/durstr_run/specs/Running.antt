-- How a run changes the bytes of its reader and its writer. An `Option` is `None` if the bytes are
-- not known, such as those of standard input.
use Rattle.std.specs.Prelude.{ℕ, ◌<◌, ◌≤◌, Bool, List, length, take, Option}
use Rattle.std.specs.Io.KnownBytes.{Keeps, Appends, Consumes, IsAtEnd}
use Rattle.duration_str_base.specs.declared.options.Options.{Options}
use Rattle.durstr_run.specs.declared.fault.RunFault.{RunFault}
use Rattle.durstr_run.specs.declared.fault.RunFault.TheVariants.{Read, Write, TooLong, Memory}
use Rattle.durstr_run.specs.Output.{IsOutput}

abbrev pub input_limit : ℕ
input_limit = 1_048_576

-- The whole input was read, and it is these bytes.
abbrev pub ReadsAll : Option (List ℕ) → Option (List ℕ) → List ℕ → Type 0
ReadsAll source rest input = Consumes source rest input × IsAtEnd rest × (length input ≤ input_limit)

abbrev pub ReadsTooMuch : Option (List ℕ) → Option (List ℕ) → Type 0
ReadsTooMuch source rest = (bytes : List ℕ) × Consumes source rest bytes × (input_limit < length bytes)

-- A beginning of these bytes was written.
abbrev pub WritesFront : Option (List ℕ) → Option (List ℕ) → List ℕ → Type 0
WritesFront before after bytes = (n : ℕ) × Appends before after (take n bytes)

-- The whole input was read, and its output was written. The flag says whether all lines are
-- accepted.
abbrev pub WritesOutput : Options → Bool → Option (List ℕ) → Option (List ℕ) → Option (List ℕ) → Option (List ℕ)
    → Type 0
WritesOutput o accepted source rest before after =
    (input out : List ℕ) × ReadsAll source rest input × IsOutput o input out accepted × Appends before after out

-- The state after each fault. With `Write` the whole input was read, and a beginning of the output
-- was written. With every other fault nothing was written. With `TooLong` more bytes were read than
-- an input may have.
abbrev pub Leaves : Options → RunFault → Option (List ℕ) → Option (List ℕ) → Option (List ℕ) → Option (List ℕ) → Type 0
Leaves o Read source rest before after = Keeps before after
Leaves o TooLong source rest before after = Keeps before after × ReadsTooMuch source rest
Leaves o Write source rest before after =
    (input out : List ℕ) × (accepted : Bool) × ReadsAll source rest input
    × IsOutput o input out accepted × WritesFront before after out
Leaves o Memory source rest before after = Keeps before after
