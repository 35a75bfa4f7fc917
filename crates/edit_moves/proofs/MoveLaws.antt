-- The moves of the bytes of a log of n places are splices of its rows, one equality for each of the four.
use mathlib.Core.Path.{◌≡◌, ◌∙◌, ap}
use mathlib.Core.List.{List, [], ◌∷◌, ◌++◌, append_assoc}
use Prim.Native.Nat.{ℕ, suc, ◌+◌, ◌*◌, ◌-◌, ◌<◌, ◌≤◌}
use native.Mathlib.Omega.{arith}
use lib.ListN.{length, take, drop, length-drop}
use lib.Seq.{drop-drop}
use Rattle.rules.specs.declared.Row.{Row}
use Rattle.rules.specs.Records.{row_size}
use Rattle.rules.specs.Packed.{row_bytes, places_bytes, log_for}
use Rattle.rules.specs.Edits.{splice}
use Rattle.rules.proofs.PlacesLaws.{places_length, places_take, places_drop, places_more, places_join}
use Rattle.rules.proofs.SpliceLaws.{splice_length}
use Rattle.edit_row_places.specs.Places.{put, front, closed, inserted, divided}
use Rattle.edit_moves.specs.Moves.{below, replaced_log, inserted_log, removed_log, divided_log}

-- all of m + 1 places but the last
places_front : (m : ℕ) (xs : List Row) → front (places_bytes (suc m) xs) ≡ places_bytes m xs
places_front m xs =
    let e : length (places_bytes (suc m) xs) - row_size ≡ m * row_size = omega (arith, places_length (suc m) xs) in
    let f : suc m ≡ m + 1 = omega arith in
    rw (e, f) (places_take m 1 xs)

module _ (n : ℕ) (rs : List Row) (few : length rs ≤ n) (i : ℕ) (high : i ≤ length rs) where
  -- a count, the rows above, and what is then done to the n - i places below them
  spliced : (c g : ℕ) (come : List Row) (f : List ℕ → List ℕ) → i + g ≤ length rs → c + g ≡ length rs + length come
      → f (places_bytes (n - i) (drop i rs)) ≡ places_bytes (n - i) (come ++ drop (i + g) rs) → below i f (c ∷ places_bytes n rs) ≡ log_for n (splice i g come rs)
  unfolding log_for
  spliced c g come f l k h =
      let a : 1 + i * row_size ≡ suc (i * row_size) = omega arith in
      let e : c ≡ length (splice i g come rs) = omega (arith, splice_length i g come rs l) in
      let m : i + (n - i) ≡ n = omega arith in
      let t : take (i * row_size) (places_bytes n rs) ≡ places_bytes i rs = rw m at (places_take i (n - i) rs) in
      let d : drop (i * row_size) (places_bytes n rs) ≡ places_bytes (n - i) (drop i rs) = rw m at (places_drop i (n - i) rs) in
      rw (a, t, d, h, e)
      (ap (λ (l : List ℕ). length (splice i g come rs) ∷ l) (rw m at (places_join i (n - i) rs (come ++ drop (i + g) rs) high)))

  pub replaced_is : (r : Row) → i < length rs → replaced_log i (row_bytes r) (log_for n rs) ≡ log_for n (splice i 1 (r ∷ []) rs)
  unfolding log_for places_bytes row_bytes
  replaced_is r h =
      let m : n - i ≡ suc (n - i - 1) = omega arith in
      spliced (length rs) 1 (r ∷ []) (put (row_bytes r)) (omega arith) (omega arith) (rw (m, ← drop-drop 1 i rs))

  pub inserted_is : (r : Row) → length rs < n → inserted_log i (row_bytes r) (log_for n rs) ≡ log_for n (splice i 0 (r ∷ []) rs)
  unfolding log_for places_bytes
  inserted_is r h =
      let m : n - i ≡ suc (n - i - 1) = omega arith in
      let z : i + 0 ≡ i = omega arith in
      spliced (length rs + 1) 0 (r ∷ []) (inserted (row_bytes r)) (omega arith) (omega arith)
      (rw (m, z) (ap (λ (t : List ℕ). row_bytes r ++ t) (places_front (n - i - 1) (drop i rs))))

  pub removed_is : i < length rs → removed_log i (log_for n rs) ≡ log_for n (splice i 1 [] rs)
  unfolding log_for places_bytes row_bytes
  removed_is h =
      let m : n - i ≡ suc (n - i - 1) = omega arith in
      spliced (length rs - 1) 1 [] closed (omega arith) (omega arith) (rw (m, ← drop-drop 1 i rs) (places_more (n - i - 1) (drop 1 (drop i rs)) (simp length-drop (omega arith))))

  pub divided_is : (u v : Row) → i < length rs → length rs < n → divided_log i (row_bytes u) (row_bytes v) (log_for n rs) ≡ log_for n (splice i 1 (u ∷ v ∷ []) rs)
  unfolding log_for places_bytes row_bytes
  divided_is u v h k =
      let m : n - i ≡ suc (suc (n - i - 2)) = omega arith in
      spliced (length rs + 1) 1 (u ∷ v ∷ []) (divided (row_bytes u) (row_bytes v)) (omega arith) (omega arith)
      (rw (m, ← drop-drop 1 i rs)
      (append_assoc (row_bytes u) (row_bytes v) _ ∙ ap (λ (t : List ℕ). row_bytes u ++ (row_bytes v ++ t)) (places_front (n - i - 2) (drop 1 (drop i rs)))))
