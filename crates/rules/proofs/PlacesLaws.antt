-- Row places, over any number of them: a log is its rows, and its rows are the log.
use mathlib.Core.Path.{◌≡◌, refl, sym, ◌∙◌, ap, ap₂}
use mathlib.Core.Bool.{true}
use mathlib.Core.List.{List, [], ◌∷◌, ◌++◌, append_assoc}
use Prim.Native.Nat.{ℕ, zero, suc, ◌+◌, ◌*◌, ◌≤◌}
use native.Mathlib.Nat.{zero-add}
use native.Mathlib.Omega.{arith}
use lib.Dec.{eqb}
use borrow.Author.Tests.{eqb-true}
use lib.ListN.{length, get_or, take, drop, replicate, length-append, length-drop, take-append-drop, replicate-append-replicate}
use lib.Seq.{drop-drop, get_or-drop, length-take-le, take-append-add, drop-append-add}
use Rattle.rules.specs.declared.Row.{Row}
use Rattle.rules.specs.Base.{all_zero}
use Rattle.rules.specs.Widths.{fields_of, join, bytes, Fits, Bytes}
use Rattle.rules.specs.Records.{row_widths, row_from, row_fields, row_size}
use Rattle.rules.specs.Limits.{log_size}
use Rattle.rules.specs.Packed.{number_at, row_at, rows_from, rows_of, count_of, row_bytes, no_row, places_bytes, log_for}
use Rattle.rules.proofs.Basics.{both_left, both_right, rows_length}
use Rattle.rules.proofs.WidthLaws.{there, back, number_part, number_front}

abbrev pub AllFit : List Row → Type 0
AllFit [] = Unit {0}
AllFit (r ∷ rs) = Fits row_widths (row_fields r) × AllFit rs

pub row_long : (r : Row) → length (row_bytes r) ≡ row_size
unfolding row_bytes
row_long r = refl

pub places_length : (n : ℕ) (rs : List Row) → length (places_bytes n rs) ≡ n * row_size
unfolding places_bytes
places_length zero rs = refl
places_length (suc n) rs = simp length-append (omega (arith, row_long (get_or rs 0 no_row), places_length n (drop 1 rs)))

-- the rows from byte i + j on
pub rows_part : (s : List ℕ) (i j n : ℕ) → rows_from (drop i s) j n ≡ rows_from s (i + j) n
unfolding rows_from
rows_part s i j zero = refl
rows_part s i j (suc n) =
    let e : i + (j + row_size) ≡ i + j + row_size = omega arith in
    ap₂ (λ (r : Row) (t : List Row). r ∷ t) (ap (λ (w : ℕ). row_from (fields_of row_widths w)) (number_part s i j row_size)) (rows_part s i (j + row_size) n ∙ ap (λ (k : ℕ). rows_from s k n) e)

-- the rows that were packed are read
pub rows_there : (n : ℕ) (rs : List Row) → length rs ≤ n → AllFit rs → rows_from (places_bytes n rs) 0 (length rs) ≡ rs
unfolding rows_from places_bytes row_bytes
rows_there n [] h f = refl
rows_there zero (r ∷ rs) h f = absurd (omega arith)
rows_there (suc n) (r ∷ rs) h f =
    let z = places_bytes n rs in
    ap₂ (λ (x : Row) (t : List Row). x ∷ t) (ap row_from (there row_size row_widths (row_fields r) z refl f.0))
    (sym (rows_part (row_bytes r ++ z) row_size 0 (length rs)) ∙ rows_there n rs (omega arith) f.1)

pub log_rows : (n : ℕ) (rs : List Row) → length rs ≤ n → AllFit rs → rows_of (log_for n rs) ≡ rs
unfolding rows_of log_for
log_rows n rs h f = sym (rows_part (length rs ∷ places_bytes n rs) 1 0 (length rs)) ∙ rows_there n rs h f

pub log_length : (n : ℕ) (rs : List Row) → length (log_for n rs) ≡ log_size n
unfolding log_for
log_length n rs = omega (arith, places_length n rs)

-- what stands behind the first place
module _ (r : Row) (t : List ℕ) (m : ℕ) where
  size : suc m * row_size ≡ length (row_bytes r) + m * row_size
  size = omega (arith, row_long r)

  take_place : take (suc m * row_size) (row_bytes r ++ t) ≡ row_bytes r ++ take (m * row_size) t
  take_place = ap (λ (k : ℕ). take k (row_bytes r ++ t)) size ∙ take-append-add (row_bytes r) t (m * row_size)

  drop_place : drop (suc m * row_size) (row_bytes r ++ t) ≡ drop (m * row_size) t
  drop_place = ap (λ (k : ℕ). drop k (row_bytes r ++ t)) size ∙ drop-append-add (row_bytes r) t (m * row_size)

-- the unused places are zero
blank_places : (n : ℕ) → all_zero (places_bytes n []) ≡ true
unfolding places_bytes row_bytes all_zero
blank_places zero = refl
blank_places (suc n) = blank_places n

pub places_blank : (n : ℕ) (rs : List Row) → length rs ≤ n → all_zero (drop (length rs * row_size) (places_bytes n rs)) ≡ true
unfolding places_bytes
places_blank n [] h = blank_places n
places_blank zero (r ∷ rs) h = absurd (omega arith)
places_blank (suc n) (r ∷ rs) h = rw (drop_place r (places_bytes n rs) (length rs)) (places_blank n rs (omega arith))

pub log_blank : (n : ℕ) (rs : List Row) → length rs ≤ n → all_zero (drop (1 + count_of (log_for n rs) * row_size) (log_for n rs)) ≡ true
unfolding log_for
log_blank n rs h = let e : 1 + length rs * row_size ≡ suc (length rs * row_size) = omega arith in rw e (places_blank n rs h)

-- places above and below
pub places_take : (m j : ℕ) (rs : List Row) → take (m * row_size) (places_bytes (m + j) rs) ≡ places_bytes m rs
unfolding places_bytes
places_take zero j rs = refl
places_take (suc m) j rs =
    let e : suc m + j ≡ suc (m + j) = omega arith in
    let r = get_or rs 0 no_row in
    rw e (take_place r (places_bytes (m + j) (drop 1 rs)) m ∙ ap (λ (t : List ℕ). row_bytes r ++ t) (places_take m j (drop 1 rs)))

pub places_drop : (m j : ℕ) (rs : List Row) → drop (m * row_size) (places_bytes (m + j) rs) ≡ places_bytes j (drop m rs)
unfolding places_bytes
places_drop zero j rs = rw zero-add
places_drop (suc m) j rs =
    let e : suc m + j ≡ suc (m + j) = omega arith in
    let g : 1 + m ≡ suc m = omega arith in
    rw e
    (drop_place (get_or rs 0 no_row) (places_bytes (m + j) (drop 1 rs)) m ∙ places_drop m j (drop 1 rs)
    ∙ ap (places_bytes j) (drop-drop m 1 rs ∙ ap (λ (i : ℕ). drop i rs) g))

-- one more zero place
pub places_more : (m : ℕ) (rs : List Row) → length rs ≤ m → places_bytes m rs ++ replicate row_size 0 ≡ places_bytes (suc m) rs
unfolding places_bytes row_bytes
places_more zero [] h = refl
places_more zero (r ∷ rs) h = absurd (omega arith)
places_more (suc m) rs h =
    let r = get_or rs 0 no_row in
    append_assoc (row_bytes r) (places_bytes m (drop 1 rs)) (replicate row_size 0)
    ∙ ap (λ (t : List ℕ). row_bytes r ++ t) (places_more m (drop 1 rs) (simp length-drop (omega arith)))

places_append : (xs ys : List Row) (m : ℕ) → places_bytes (length xs + m) (xs ++ ys) ≡ places_bytes (length xs) xs ++ places_bytes m ys
unfolding places_bytes
places_append [] ys m = rw zero-add
places_append (x ∷ xs) ys m =
    let e : suc (length xs) + m ≡ suc (length xs + m) = omega arith in
    rw e (ap (λ (t : List ℕ). row_bytes x ++ t) (places_append xs ys m) ∙ sym (append_assoc (row_bytes x) (places_bytes (length xs) xs) (places_bytes m ys)))

-- only the first m rows stand in m places
places_front : (m : ℕ) (rs : List Row) → places_bytes m (take m rs) ≡ places_bytes m rs
unfolding places_bytes
places_front zero rs = refl
places_front (suc m) [] = refl
places_front (suc m) (r ∷ rs) = ap (λ (t : List ℕ). row_bytes r ++ t) (places_front m rs)

-- i rows, and behind them what stands in m places
pub places_join : (i m : ℕ) (rs ys : List Row) → i ≤ length rs → places_bytes i rs ++ places_bytes m ys ≡ places_bytes (i + m) (take i rs ++ ys)
places_join i m rs ys h =
    let e : length (take i rs) ≡ i = length-take-le i rs h in
    sym (rw (← places_front i rs) (rw e at (places_append (take i rs) ys m)))

-- A log that passes check 2 is the log of its rows.
pub bytes_drop : (n : ℕ) (s : List ℕ) → Bytes s → Bytes (drop n s)
bytes_drop n s f i = rw (get_or-drop n s i 0) (f (n + i))

pub bytes_take : (n : ℕ) (s : List ℕ) → Bytes s → Bytes (take n s)
bytes_take zero s f i = omega arith
bytes_take (suc n) [] f i = omega arith
bytes_take (suc n) (b ∷ s) f zero = f 0
bytes_take (suc n) (b ∷ s) f (suc i) = bytes_take n s (λ j. f (suc j)) i

-- the row that was read packs to its bytes
pub row_back : (t : List ℕ) → row_size ≤ length t → Bytes t → row_bytes (row_at t 0) ≡ take row_size t
unfolding row_bytes
row_back t h b =
    let e : length (take row_size t) ≡ row_size = length-take-le row_size t h in
    ap (λ (w : ℕ). fields_of (bytes row_size) (join row_widths (fields_of row_widths w)))
    (ap (λ (s : List ℕ). number_at s 0 row_size) (sym (take-append-drop row_size t)) ∙ number_front row_size (take row_size t) (drop row_size t) (omega arith))
    ∙ back row_size row_widths (take row_size t) refl e (bytes_take row_size t b)

zero_places : (n : ℕ) (t : List ℕ) → length t ≡ n * row_size → all_zero t ≡ true → places_bytes n [] ≡ t
unfolding places_bytes row_bytes all_zero
zero_places n t h z = zero_is n ∙ ap (λ (k : ℕ). replicate {A = ℕ} k 0) (sym h) ∙ zeros t z
  where
    zero_is : (n : ℕ) → places_bytes n [] ≡ replicate (n * row_size) 0
    zero_is zero = refl
    zero_is (suc n) =
        let e : row_size + n * row_size ≡ suc n * row_size = omega arith in
        ap (λ (t : List ℕ). replicate row_size 0 ++ t) (zero_is n) ∙ replicate-append-replicate row_size (n * row_size) 0 ∙ ap (λ (k : ℕ). replicate {A = ℕ} k 0) e

    zeros : (t : List ℕ) → all_zero t ≡ true → replicate (length t) 0 ≡ t
    zeros [] z = refl
    zeros (b ∷ t) z = ap₂ (λ (x : ℕ) (y : List ℕ). x ∷ y) (sym (eqb-true b 0 (both_left (eqb b 0) (all_zero t) z))) (zeros t (both_right (eqb b 0) (all_zero t) z))

pub places_whole : (n m : ℕ) (t : List ℕ) → m ≤ n → length t ≡ n * row_size → Bytes t → all_zero (drop (m * row_size) t) ≡ true → places_bytes n (rows_from t 0 m) ≡ t
unfolding places_bytes rows_from
places_whole n zero t h l b z = zero_places n t l z
places_whole zero (suc m) t h l b z = absurd (omega arith)
places_whole (suc n) (suc m) t h l b z =
    let d : length (drop row_size t) ≡ n * row_size = simp length-drop (omega arith) in
    let e : suc m * row_size ≡ row_size + m * row_size = omega arith in
    let y : all_zero (drop (m * row_size) (drop row_size t)) ≡ true = rw (drop-drop (m * row_size) row_size t, ← e) z in
    ap₂ (λ (x s : List ℕ). x ++ s) (row_back t (omega arith) b)
    (ap (places_bytes n) (sym (rows_part t row_size 0 m)) ∙ places_whole n m (drop row_size t) (omega arith) d (bytes_drop row_size t b) y)
    ∙ take-append-drop row_size t

pub log_whole : (n : ℕ) (l : List ℕ) → length l ≡ log_size n → Bytes l → count_of l ≤ n → all_zero (drop (1 + count_of l * row_size) l) ≡ true → log_for n (rows_of l) ≡ l
unfolding log_for rows_of
log_whole n [] h b c z = absurd (omega arith)
log_whole n (c ∷ t) h b k z =
    let e : 1 + c * row_size ≡ suc (c * row_size) = omega arith in
    ap₂ (λ (x : ℕ) (s : List ℕ). x ∷ s) (rows_length (c ∷ t) 1 c)
    (ap (places_bytes n) (sym (rows_part (c ∷ t) 1 0 c)) ∙ places_whole n c t k (omega arith) (λ (i : ℕ). b (suc i)) (rw e at z))
