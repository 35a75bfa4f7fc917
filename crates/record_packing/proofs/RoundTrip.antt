-- A log whose fields are in range packs, and reads as these fields; and what is read of a log packs, into any buffer as long, to the same bytes.
use mathlib.Core.Path.{◌≡◌, refl, ap, ap₂, sym, ◌∙◌}
use mathlib.Core.Bool.{true, false}
use mathlib.Core.List.{List, [], ◌∷◌, ◌++◌}
use Prim.Native.Nat.{ℕ, zero, suc, ◌+◌, ◌*◌, ◌-◌, ◌<◌, ◌≤◌}
use native.Mathlib.Omega.{arith}
use borrow.Author.Tests.{le-ltb, ne_eqb}
use lib.ListN.{length, get_or, take, drop, replicate, length-append, length-drop, length-replicate, take-append-drop, get_or-append}
use lib.Seq.{take_all, take_at, drop_at, get_or-take, get_or-drop, length-take-le}
use Rattle.rules.specs.declared.Row.{Row}
use Rattle.rules.specs.declared.Log.{Log}
use Rattle.rules.specs.Base.{nothing, refuses, all_zero, first, when}
use Rattle.rules.specs.Widths.{Bytes}
use Rattle.rules.specs.Records.{row_size}
use Rattle.rules.specs.Limits.{row_limit, log_size, limit_of}
use Rattle.rules.specs.Packed.{count_of, rows_of, log_of, no_row, row_bytes, places_bytes, log_bytes, log_for}
use Rattle.rules.specs.Ranges.{LogInRange}
use Rattle.rules.specs.Checks.{formless, unused_wrong, first_wrong}
use Rattle.rules.specs.Reading.{rows_zero, unused_fields, read_log, pack_log_check, packed_log}
use Rattle.rules.proofs.FormLaws.{limit_long, limit_most, limit_same}
use Rattle.rules.proofs.PassedLaws.{count_length, log_limit, log_has}
use Rattle.rules.proofs.PlacesLaws.{log_blank, log_whole}
use Rattle.rules.proofs.RangeLaws.{Fit, fit_of, of_fit, fit_at}
use Rattle.rules.proofs.InRangeLaws.{rows_right, row_in_range}
use Rattle.rules.proofs.RefusalLaws.{first_off, when_off}
use Rattle.record_unused.proofs.CountLaws.{counted}
use Rattle.record_logs.proofs.ReadLaws.{padded}

-- rows that are all zero
no_rows : (rs : List Row) → ((k : ℕ) → get_or rs k no_row ≡ no_row) → rs ≡ replicate (length rs) no_row
no_rows [] h = refl
no_rows (r ∷ rs) h = ap₂ (λ (x : Row) (t : List Row). x ∷ t) (h 0) (no_rows rs (λ k. h (suc k)))

rows_zero_lem : (n : ℕ) → rows_zero (replicate n no_row) ≡ true
unfolding rows_zero all_zero
rows_zero_lem zero = refl
rows_zero_lem (suc n) = rows_zero_lem n

-- zero places behind the rows make no other bytes
places_pad : (n : ℕ) (rs : List Row) (k : ℕ) → places_bytes n (rs ++ replicate k no_row) ≡ places_bytes n rs
unfolding places_bytes
places_pad zero rs k = refl
places_pad (suc n) [] zero = refl
places_pad (suc n) [] (suc k) = ap (λ (t : List ℕ). row_bytes no_row ++ t) (places_pad n [] k)
places_pad (suc n) (r ∷ rs) k = ap (λ (t : List ℕ). row_bytes r ++ t) (places_pad n rs k)

log_bytes_lem : (n : ℕ) (l : Log) (rs : List Row) (k : ℕ) → l.count ≡ length rs → l.rows ≡ rs ++ replicate k no_row → log_bytes n l ≡ log_for n rs
unfolding log_bytes log_for
log_bytes_lem n l rs k e f = rw (e, f, places_pad n rs k)

-- what is read of bytes t that pass checks 1 to 3
read_is : (t : List ℕ) (l : Log) → 0 < limit_of t → 1 ≤ count_of t → count_of t ≤ limit_of t → all_zero (drop (1 + count_of t * row_size) t) ≡ true → Fit (rows_of t)
    → l.count ≡ count_of t → l.rows ≡ rows_of t ++ replicate (row_limit - count_of t) no_row → read_log t ≡ record { refusal = nothing; log = l }
unfolding read_log unused_wrong first when log_of
read_is t l f o m b fit e g =
    rw (ne_eqb (limit_of t) 0 (λ z. omega arith), ne_eqb (count_of t) 0 (λ z. omega arith), le-ltb _ _ m, b, of_fit 1 (rows_of t) fit, padded t (omega (arith, limit_most t)) b, ← g, ← e)

-- Fields that are those of the rows rs, each in range, with zero rows behind them, packed into the buffer s of some form.
module _ (l : Log) (s : List ℕ) (rs : List Row) (form : 0 < limit_of s) (some : 1 ≤ length rs) (few : length rs ≤ limit_of s) (fit : Fit rs)
    (count : l.count ≡ length rs) (rows : l.rows ≡ rs ++ replicate (row_limit - length rs) no_row) where
  packs : pack_log_check l s ≡ nothing
  unfolding pack_log_check unused_fields first when
  packs =
      let n = length rs in
      let zeros = replicate (row_limit - n) no_row in
      let long : length l.rows ≤ row_limit = rw rows (simp (length-append, length-replicate) (omega (arith, limit_most s))) in
      let blank : rows_zero (drop n (take row_limit l.rows)) ≡ true = rw (take_all row_limit l.rows long, rows, drop_at rs zeros n refl) (rows_zero_lem (row_limit - n)) in
      let used : take n l.rows ≡ rs = rw (rows, take_at rs zeros n refl) in
      rw (ne_eqb (limit_of s) 0 (λ z. omega arith), count, ne_eqb n 0 (λ z. omega arith), le-ltb (limit_of s) n few, blank, used, of_fit 1 rs fit)

  packed : packed_log l s ≡ log_for (limit_of s) rs
  unfolding packed_log
  packed = rw packs (log_bytes_lem (limit_of s) l rs (row_limit - length rs) count rows)

  read : read_log (packed_log l s) ≡ record { refusal = nothing; log = l }
  unfolding log_for
  read =
      let has = log_has s form rs few fit in
      let limit = log_limit s form rs in
      rw packed (read_is (log_for (limit_of s) rs) l (rw limit form) some (rw limit few) (log_blank (limit_of s) rs few) (rw has fit) count (rw has rows))

right_form : (s : List ℕ) → length s ≡ log_size row_limit → limit_of s ≡ row_limit
unfolding limit_of
right_form s h = rw h

pub log_there : (l : Log) (s : List ℕ) → LogInRange l → length s ≡ log_size row_limit → (pack_log_check l s ≡ nothing) × (read_log (packed_log l s) ≡ record { refusal = nothing; log = l })
log_there l s r h =
    let c = l.count in
    let rs = take c l.rows in
    let below = drop c l.rows in
    let limit : limit_of s ≡ row_limit = right_form s h in
    let n : length rs ≡ c = length-take-le c l.rows (omega (arith, r.count.1, r.places)) in
    let fit : Fit rs = rows_right rs (λ k i. rw (get_or-take c l.rows k no_row (omega arith)) (r.used k (omega arith))) in
    let blank : below ≡ replicate (length below) no_row = no_rows below (λ k. get_or-drop c l.rows k no_row ∙ r.unused (c + k) (omega arith)) in
    let left : length below ≡ row_limit - length rs = rw (length-drop, r.places, n) in
    let rows : l.rows ≡ rs ++ replicate (row_limit - length rs) no_row = sym (take-append-drop c l.rows) ∙ ap (λ (t : List Row). rs ++ t) (rw left at blank) in
    let form : 0 < limit_of s = omega arith in
    let some : 1 ≤ length rs = omega (arith, r.count.0) in
    let few : length rs ≤ limit_of s = omega (arith, r.count.1) in
    (packs l s rs form some few fit (sym n) rows, read l s rs form some few fit (sym n) rows)

-- what is read of bytes that are not refused: some rows, no more than the form has, each in range, with zero rows and zero bytes behind them
record Known (s : List ℕ) : Type 0 where
  form : 0 < limit_of s
  some : 1 ≤ length (rows_of s)
  few : length (rows_of s) ≤ limit_of s
  fit : Fit (rows_of s)
  count : count_of s ≡ length (rows_of s)
  blank : all_zero (drop (1 + count_of s * row_size) s) ≡ true
  rows : (log_of s).rows ≡ rows_of s ++ replicate (row_limit - length (rows_of s)) no_row

known : (s : List ℕ) → refuses (read_log s).refusal ≡ false → Known s
unfolding read_log log_of
known s g =
    let k = first_off (when (formless s) 1) _ g in
    let u = first_off (when (unused_wrong s) 2) (first_wrong 1 (rows_of s)) k.1 in
    let two = counted s (when_off 1 (unused_wrong s) u.0) in
    let n : length (rows_of s) ≡ count_of s = count_length s in
    record {
      form = omega (arith, two.0, two.1);
      some = omega (arith, two.0);
      few = omega (arith, two.1);
      fit = fit_of 1 (rows_of s) u.1;
      count = sym n;
      blank = two.2;
      rows = rw n (padded s (omega (arith, two.1, limit_most s)) two.2);
    }

pub log_back : (s t : List ℕ) → Bytes s → length t ≡ length s → refuses (read_log s).refusal ≡ false
    → (pack_log_check (read_log s).log t ≡ nothing) × (packed_log (read_log s).log t ≡ s)
unfolding read_log log_of
log_back s t b h g =
    let k = known s g in
    let rs = rows_of s in
    let limit : limit_of t ≡ limit_of s = limit_same t s h in
    let form : 0 < limit_of t = rw limit k.form in
    let few : length rs ≤ limit_of t = rw limit k.few in
    rw g (
      packs (log_of s) t rs form k.some few k.fit k.count k.rows,
      packed (log_of s) t rs form k.some few k.fit k.count k.rows
          ∙ rw limit (log_whole (limit_of s) s (limit_long s k.form) b (omega (arith, k.few, k.count)) k.blank),
    )

-- and fields that are read are in range
none_behind : (rs : List Row) (n k : ℕ) → length rs ≤ k → get_or (rs ++ replicate n no_row) k no_row ≡ no_row
none_behind [] zero k h = refl
none_behind [] (suc n) zero h = refl
none_behind [] (suc n) (suc k) h = none_behind [] n k (omega arith)
none_behind (r ∷ rs) n zero h = absurd (omega arith)
none_behind (r ∷ rs) n (suc k) h = none_behind rs n k (omega arith)

pub log_in_range : (s : List ℕ) → refuses (read_log s).refusal ≡ false → LogInRange (read_log s).log
unfolding read_log log_of
log_in_range s g =
    let k = known s g in
    let rs = rows_of s in
    let zeros = replicate (row_limit - length rs) no_row in
    rw g
    (record {
      places = rw k.rows (simp (length-append, length-replicate) (omega (arith, k.few, limit_most s)));
      count = (omega (arith, k.some, k.count), omega (arith, k.few, k.count, limit_most s));
      used = λ i h. let l : i < length rs = omega (arith, k.count) in rw (k.rows, get_or-append rs zeros no_row i l) (row_in_range (get_or rs i no_row) (fit_at rs i l k.fit));
      unused = λ i h. rw k.rows (none_behind rs (row_limit - length rs) i (omega (arith, k.count)));
    })
