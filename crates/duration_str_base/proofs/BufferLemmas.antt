-- Bytes in a buffer, and bytes that are longer than it.
use Rattle.duration_str_base.proofs.Common.{ap, arith, length, length-append, List, take, ℕ, ◌++◌, ◌<◌, ◌≡◌, ◌≤◌}
use Rattle.std.proofs.lemmas.List.{length-take}

pub whole_is_longer : (written after whole : List ℕ) (room : ℕ) → written ++ after ≡ whole → room < length written
    → room < length whole
whole_is_longer written after whole room all full = omega (arith, full, ap length all, length-append written after)

pub end_inside : (bytes buffer : List ℕ) (end : ℕ) → end ≡ length bytes → take end buffer ≡ bytes → end ≤ length buffer
end_inside bytes buffer end long is = omega (arith, long, ap length is, length-take end buffer)
