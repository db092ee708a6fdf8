-- Bytes at the start of a buffer.
use Rattle.std.specs.Prelude.{◌≡◌, ℕ, ◌<◌, length, take, Option, Some, None}
use Rattle.duration_str_base.specs.Text.{Bytes}

-- If the result is `Some end`, the buffer starts with the bytes, which end at `end`. If it is
-- `None`, the buffer is shorter than the bytes.
abbrev pub IsInFront : Bytes → Option ℕ → Bytes → Type 0
IsInFront bytes (Some end) buffer = (end ≡ length bytes) × (take end buffer ≡ bytes)
IsInFront bytes None buffer = length buffer < length bytes
