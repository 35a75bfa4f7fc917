-- Bytes as one number of 64 bits, and the fields that a bit reader and a bit writer cut from it and put into it.
use Rattle.std.specs.Prelude.{◌≡◌, ℕ, ◌+◌, ◌-◌, ◌*◌, ◌/◌, ◌%◌, ◌^◌, ◌<◌}

-- the bytes of a word, and its bits
abbrev pub word_size : ℕ
word_size = 8

abbrev pub word_bits : ℕ
word_bits = word_size * 8

-- the n bits that begin at bit `at`, bit 0 being the top bit
unfoldable pub field_of : ℕ → ℕ → ℕ → ℕ
field_of w at n = w / 2 ^ (word_bits - (at + n)) % 2 ^ n

-- v is taken from the n bits of w at `at`, and the cursor stands behind them
pub record Taken (w at n v w' at' : ℕ) : Type 0 where
  pub value : v ≡ field_of w at n
  pub small : v < 2 ^ n
  pub same : w' ≡ w
  pub moved : at' ≡ at + n

-- v is put into the n bits of w at `at`, and the cursor stands behind them
pub record Written (w at v n w' at' : ℕ) : Type 0 where
  pub sum : w' ≡ (w + v * 2 ^ (word_bits - (at + n))) % 2 ^ word_bits
  pub moved : at' ≡ at + n
