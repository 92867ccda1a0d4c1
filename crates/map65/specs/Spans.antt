-- Spans of bytes that follow each other: the first begins at a start, and each
-- further one where the one before it ends.
use Rattle.std.specs.Prelude.{ℕ, zero, suc, ◌+◌, ◌-◌, ◌==◌, List, if◌then◌else◌}
use Rattle.std.specs.List.{range_with_len}

-- How many of the bytes from the k-th on belong to a span that begins before it, where `size` is the length
-- of the span that begins at an address.
unfoldable pub left_at : (ℕ → ℕ) → ℕ → ℕ → ℕ
left_at size start zero = 0
left_at size start (suc k) = if left_at size start k == 0 then size (start + k) - 1 else left_at size start k - 1

-- the next n addresses, from one on
unfoldable pub addresses : ℕ → ℕ → List ℕ
addresses n a = range_with_len a n
