-- A log as the moves leave its bytes: its count, and the places below its first rows.
use Rattle.std.specs.Prelude.{List, ◌++◌, ℕ, ◌+◌, ◌-◌, ◌*◌, take, drop, set}
use Rattle.rules.specs.Records.{row_size}
use Rattle.rules.specs.Packed.{count_of}
use Rattle.edit_row_places.specs.Places.{put, closed, inserted, divided}

-- another count in the first byte
abbrev pub with_count : ℕ → List ℕ → List ℕ
with_count n log = set log 0 n

-- f done to the places below the first i rows
abbrev pub below : ℕ → (List ℕ → List ℕ) → List ℕ → List ℕ
below i f log = take (1 + i * row_size) log ++ f (drop (1 + i * row_size) log)

-- the next row is replaced, comes in, goes, or gives way to two
abbrev pub replaced_log : ℕ → List ℕ → List ℕ → List ℕ
replaced_log i row log = below i (put row) log

abbrev pub inserted_log : ℕ → List ℕ → List ℕ → List ℕ
inserted_log i row log = below i (inserted row) (with_count (count_of log + 1) log)

abbrev pub removed_log : ℕ → List ℕ → List ℕ
removed_log i log = below i closed (with_count (count_of log - 1) log)

abbrev pub divided_log : ℕ → List ℕ → List ℕ → List ℕ → List ℕ
divided_log i upper lower log = below i (divided upper lower) (with_count (count_of log + 1) log)
