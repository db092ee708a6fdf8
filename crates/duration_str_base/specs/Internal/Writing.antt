-- Bytes written to the start of a buffer.
use Rattle.std.specs.Prelude.{◌≡◌, ℕ, Option, IsNone}
use Rattle.duration_str_base.specs.Buffers.{IsInFront}
use Rattle.duration_str_base.specs.Text.{Bytes}

-- If the result is `Some end`, the new buffer starts with the bytes, which end at `end`. If it is
-- `None`, the buffer is shorter than the bytes, and is unchanged.
abbrev pub IsWritten : Bytes → Bytes → Option ℕ → Bytes → Type 0
IsWritten bytes old end new = IsInFront bytes end new × (IsNone end → new ≡ old)
