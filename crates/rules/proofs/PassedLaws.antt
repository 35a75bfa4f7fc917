-- A log past its checks: what is known of it, and when a log of given rows is one.
use mathlib.Core.Path.{◌≡◌, sym, ◌∙◌, ap}
use mathlib.Core.Bool.{true, false}
use mathlib.Core.List.{List}
use Prim.Native.Nat.{ℕ, ◌+◌, ◌*◌, ◌<◌, ◌≤◌}
use native.Mathlib.Omega.{arith}
use lib.Dec.{ltb, eqb}
use lib.ListN.{length, drop}
use borrow.Author.Tests.{ltb-false, le-ltb, eqb-false, ne_eqb}
use Rattle.rules.specs.declared.Row.{Row}
use Rattle.rules.specs.Base.{neg, refuses, when, all_zero}
use Rattle.rules.specs.Widths.{Bytes}
use Rattle.rules.specs.Records.{row_size}
use Rattle.rules.specs.Limits.{log_size, limit_of, depth_limit}
use Rattle.rules.specs.Packed.{count_of, rows_of, log_for}
use Rattle.rules.specs.Ground.{depth_of}
use Rattle.rules.specs.Checks.{formless, count_wrong, unused_wrong, first_wrong, log_checks, Passed, too_deep}
use Rattle.rules.proofs.ByRows.{Positive}
use Rattle.rules.proofs.Basics.{rows_length}
use Rattle.rules.proofs.RefusalLaws.{first_off, first_none, when_off, when_false, either_left, either_right, neg_false}
use Rattle.rules.proofs.FormLaws.{limit_long, limit_same}
use Rattle.rules.proofs.PlacesLaws.{log_rows, log_length, log_blank, log_whole}
use Rattle.rules.proofs.RangeLaws.{Fit, fit_of, of_fit, fit_positive, fit_bits}

pub count_length : (s : List ℕ) → length (rows_of s) ≡ count_of s
unfolding rows_of
count_length s = rows_length s 1 (count_of s)

-- what checks 1 to 4 see to
pub record Known (s : List ℕ) : Type 0 where
  pub form : 0 < limit_of s
  pub long : length s ≡ log_size (limit_of s)
  pub some : 1 ≤ count_of s
  pub few : count_of s ≤ limit_of s
  pub inside : 1 + count_of s * row_size ≤ length s
  pub blank : all_zero (drop (1 + count_of s * row_size) s) ≡ true
  pub fit : Fit (rows_of s)
  pub full : Positive (rows_of s)
  pub deep : depth_of (rows_of s) ≤ depth_limit
  pub rows : length (rows_of s) ≡ count_of s

pub known : (s : List ℕ) → Passed s → Known s
unfolding log_checks unused_wrong
known s h =
    let a = first_off (when (formless s) 1) _ h in
    let c = first_off (when (unused_wrong s) 2) _ a.1 in
    let b = first_off (first_wrong 1 (rows_of s)) (when (too_deep (rows_of s)) 4) c.1 in
    let n : limit_of s ≡ 0 → ⊥ = eqb-false (limit_of s) 0 (when_off 0 (formless s) a.0) in
    let l : length s ≡ log_size (limit_of s) = limit_long s (omega (arith, n)) in
    let w = when_off 1 (unused_wrong s) c.0 in
    let k = either_left (count_wrong (limit_of s) (count_of s)) (neg (all_zero (drop (1 + count_of s * row_size) s))) w in
    let z : count_of s ≡ 0 → ⊥ = eqb-false (count_of s) 0 (either_left (eqb (count_of s) 0) (ltb (limit_of s) (count_of s)) k) in
    let m : count_of s ≤ limit_of s = ltb-false (limit_of s) (count_of s) (either_right (eqb (count_of s) 0) (ltb (limit_of s) (count_of s)) k) in
    let f : Fit (rows_of s) = fit_of 1 (rows_of s) b.0 in
    record {
      form = omega (arith, n);
      long = l;
      some = omega (arith, z);
      few = m;
      inside = omega arith;
      blank = neg_false _ (either_right (count_wrong (limit_of s) (count_of s)) (neg (all_zero (drop (1 + count_of s * row_size) s))) w);
      fit = f;
      full = fit_positive (rows_of s) f;
      deep = ltb-false depth_limit (depth_of (rows_of s)) (when_off 3 (too_deep (rows_of s)) b.1);
      rows = count_length s;
    }

-- and no more is asked
pub passed : (s : List ℕ) → 0 < limit_of s → 1 ≤ count_of s → count_of s ≤ limit_of s → all_zero (drop (1 + count_of s * row_size) s) ≡ true → Fit (rows_of s)
    → depth_of (rows_of s) ≤ depth_limit → Passed s
unfolding log_checks unused_wrong
passed s h o m z f d =
    let e : formless s ≡ false = ne_eqb (limit_of s) 0 (λ (e : limit_of s ≡ 0). omega arith) in
    let u : unused_wrong s ≡ false = simp (ne_eqb (count_of s) 0 (λ (e : count_of s ≡ 0). omega arith), le-ltb (limit_of s) (count_of s) m, z) in
    first_none (when (formless s) 1) _ (ap refuses (when_false 1 (formless s) e))
    (first_none (when (unused_wrong s) 2) _ (ap refuses (when_false 2 (unused_wrong s) u))
    (first_none (first_wrong 1 (rows_of s)) (when (too_deep (rows_of s)) 4) (ap refuses (of_fit 1 (rows_of s) f))
    (ap refuses (when_false 4 (too_deep (rows_of s)) (le-ltb depth_limit (depth_of (rows_of s)) d)))))

-- it is the log of its rows
pub whole : (s : List ℕ) → Passed s → Bytes s → log_for (limit_of s) (rows_of s) ≡ s
whole s h b = let k = known s h in log_whole (limit_of s) s k.long b k.few k.blank

-- other rows in a log of the same form
module _ (s : List ℕ) (form : 0 < limit_of s) (rs : List Row) where
  pub log_limit : limit_of (log_for (limit_of s) rs) ≡ limit_of s
  log_limit = limit_same (log_for (limit_of s) rs) s (log_length (limit_of s) rs ∙ sym (limit_long s form))

  module _ (few : length rs ≤ limit_of s) (fit : Fit rs) where
    pub log_has : rows_of (log_for (limit_of s) rs) ≡ rs
    log_has = log_rows (limit_of s) rs few (fit_bits rs fit)

    pub log_passed : 1 ≤ length rs → depth_of rs ≤ depth_limit → Passed (log_for (limit_of s) rs)
    log_passed o d =
        let t = log_for (limit_of s) rs in
        let c : count_of t ≡ length rs = sym (count_length t) ∙ ap length log_has in
        passed t (rw log_limit form) (rw c o) (rw (c, log_limit) few) (log_blank (limit_of s) rs few) (rw log_has fit) (rw log_has d)
