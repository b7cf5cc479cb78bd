-- Sets of readings as masks: reading k is in the mask m where bit k of m is 1. A mask has 32 bits.
use Rattle.std.specs.Prelude.{ℕ, zero, suc, ◌/◌, ◌%◌, ◌^◌, Bool, cond, ◌==◌, bit_or}

-- whether reading k is in the mask m
unfoldable pub has : ℕ → ℕ → Bool
has m k = m / 2 ^ k % 2 == 1

-- the union of the masks f k over the readings k of s below n
unfoldable pub union : ℕ → (ℕ → ℕ) → ℕ → ℕ
union s f zero = 0
union s f (suc n) = bit_or (union s f n) (cond (has s n) (f n) 0)
