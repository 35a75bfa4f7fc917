-- An edit that its checks let pass: which of the four it is, and that it leaves a log past its checks with just the rows that were spliced.
use mathlib.Core.Path.{◌≡◌, refl, sym, ◌∙◌}
use mathlib.Core.Bool.{true, false, true≢false}
use mathlib.Core.Logic.{◌⊎◌, inl, inr, ⊎_elim}
use mathlib.Core.List.{List}
use Prim.Native.Nat.{ℕ, ◌+◌, ◌-◌, ◌<◌, ◌≤◌}
use native.Mathlib.Omega.{arith}
use lib.Dec.{ltb, leb, eqb}
use lib.ListN.{length}
use borrow.Author.Tests.{ltb-true, ltb-false, leb-true, leb-false, eqb-true, eqb-false, ne_eqb}
use Rattle.rules.specs.declared.Refusal.{Refusal}
use Rattle.rules.specs.declared.Row.{Row}
use Rattle.rules.specs.Base.{both, refuses, nothing, when}
use Rattle.rules.specs.Limits.{limit_of, depth_limit}
use Rattle.rules.specs.Packed.{row_at, rows_of}
use Rattle.rules.specs.Ground.{depth_of, Agree}
use Rattle.rules.specs.Edits.{Edit, asked, brings, grows, names, row_named, stands, splice, gone, come, edited_rows, edited_log}
use Rattle.rules.specs.Checks.{wrong_field, Passed, full, new_row_check, names_nothing, too_deep}
use Rattle.rules.proofs.Groups.{change_checks}
use Rattle.rules.proofs.Basics.{sure, both_left, both_right}
use Rattle.rules.proofs.RefusalLaws.{first_off, when_off, within_low, within_high, neg_false, not_picked}
use Rattle.rules.proofs.RangeLaws.{Fit, fit_at, fit_part}
use Rattle.rules.proofs.PassedLaws.{known, log_limit, log_has, log_passed}
use Rattle.rules.proofs.SpliceLaws.{splice_length, splice_fit, split_agrees}

-- an edit of no kind does not stand
pub none_stands : (k x : ℕ) (row : List ℕ) (rs : List Row) (kind : ℕ) → (kind ≡ 1 → ⊥) → (kind ≡ 2 → ⊥) → (kind ≡ 3 → ⊥) → (kind ≡ 4 → ⊥) → false ≡ stands (asked kind k x row) rs
unfolding stands
none_stands k x row rs kind a b c d = rw (ne_eqb kind 1 a, ne_eqb kind 2 b, ne_eqb kind 3 c, ne_eqb kind 4 d)

-- the four edits, with what they name
pub data Standing (kind k x : ℕ) (rs : List Row) : Type 0 where
  replaces : kind ≡ 1 → 1 ≤ k → k ≤ length rs → Standing kind k x rs
  inserts : kind ≡ 2 → 1 ≤ k → k ≤ length rs + 1 → Standing kind k x rs
  removes : kind ≡ 3 → 1 ≤ k → k ≤ length rs → 1 < length rs → Standing kind k x rs
  splits : kind ≡ 4 → 1 ≤ k → k ≤ length rs → 1 ≤ x → x < (row_named rs k).thickness → Standing kind k x rs

is : (a b : ℕ) → (a ≡ b) ⊎ (a ≡ b → ⊥)
is a b = ⊎_elim (λ e. inl (eqb-true a b e)) (λ e. inr (eqb-false a b e)) (sure (eqb a b))

pub standing : (kind k x : ℕ) (row : List ℕ) (rs : List Row) → stands (asked kind k x row) rs ≡ true → Standing kind k x rs
unfolding stands
standing kind k x row rs h =
    ⊎_elim
    (λ (e : kind ≡ 1). let g : names k (length rs) ≡ true = rw e at h in replaces e (within_low 1 _ k g) (within_high 1 _ k g))
    (λ (a : kind ≡ 1 → ⊥). ⊎_elim
    (λ (e : kind ≡ 2). let g : names k (length rs + 1) ≡ true = rw e at h in inserts e (within_low 1 _ k g) (within_high 1 _ k g))
    (λ (b : kind ≡ 2 → ⊥). ⊎_elim
    (λ (e : kind ≡ 3). let g : both (names k (length rs)) (ltb 1 (length rs)) ≡ true = rw e at h in removing e g)
    (λ (c : kind ≡ 3 → ⊥). ⊎_elim
    (λ (e : kind ≡ 4). let g : both (names k (length rs)) (both (leb 1 x) (ltb x (row_named rs k).thickness)) ≡ true = rw e at h in splitting e g)
    (λ (d : kind ≡ 4 → ⊥). absurd (true≢false (sym h ∙ sym (none_stands k x row rs kind a b c d))))
    (is kind 4))
    (is kind 3))
    (is kind 2))
    (is kind 1)
  where
    removing : kind ≡ 3 → both (names k (length rs)) (ltb 1 (length rs)) ≡ true → Standing kind k x rs
    removing e g =
        let n : names k (length rs) ≡ true = both_left _ _ g in
        removes e (within_low 1 _ k n) (within_high 1 _ k n) (ltb-true 1 (length rs) (both_right (names k (length rs)) _ g))

    splitting : kind ≡ 4 → both (names k (length rs)) (both (leb 1 x) (ltb x (row_named rs k).thickness)) ≡ true → Standing kind k x rs
    splitting e g =
        let n : names k (length rs) ≡ true = both_left _ _ g in
        let p = both_right (names k (length rs)) _ g in
        splits e (within_low 1 _ k n) (within_high 1 _ k n) (leb-true 1 x (both_left _ _ p)) (ltb-true x (row_named rs k).thickness (both_right (leb 1 x) _ p))

-- an insert or a split that finds room
pub room : (kind limit n : ℕ) → full kind limit n ≡ false → grows kind ≡ true → n < limit
room kind limit n h g = leb-false limit n (rw g at h)

-- the row that is brought has its fields in range
pub new_fits : (kind k x : ℕ) (row : List ℕ) → brings kind ≡ true → refuses (new_row_check (asked kind k x row)) ≡ false → wrong_field (row_at row 0) ≡ 0
unfolding new_row_check
new_fits kind k x row b h =
    let f = wrong_field (row_at row 0) in
    let r : Refusal = record { number = 3; row = k; field = f } in
    (not_picked f r nothing refl (rw b at h)).0

-- where the splice is made, and what comes
pub record Lands (e : Edit) (limit : ℕ) (rs : List Row) : Type 0 where
  pub low : 1 ≤ e.k
  pub span : e.k - 1 + gone e.kind ≤ length rs
  pub fit : Fit (come e rs)
  pub some : 1 + gone e.kind ≤ length rs + length (come e rs)
  pub few : length rs + length (come e rs) ≤ limit + gone e.kind

module _ (limit : ℕ) (rs : List Row) (one : 1 ≤ length rs) (few : length rs ≤ limit) (fit : Fit rs) (kind k x : ℕ) (row : List ℕ) where
  pub lands : Standing kind k x rs → full kind limit (length rs) ≡ false → refuses (new_row_check (asked kind k x row)) ≡ false → Lands (asked kind k x row) limit rs
  lands (replaces e h g) m w =
      let f : wrong_field (row_at row 0) ≡ 0 = new_fits kind k x row (rw e) w in
      rw e (record { low = h; span = omega arith; fit = (f, tt); some = omega arith; few = omega arith })
  lands (inserts e h g) m w =
      let f : wrong_field (row_at row 0) ≡ 0 = new_fits kind k x row (rw e) w in
      let r : length rs < limit = room kind limit (length rs) m (rw e) in
      rw e (record { low = h; span = omega arith; fit = (f, tt); some = omega arith; few = omega arith })
  lands (removes e h g a) m w = rw e (record { low = h; span = omega arith; fit = tt; some = omega arith; few = omega arith })
  lands (splits e h g a b) m w =
      let r : length rs < limit = room kind limit (length rs) m (rw e) in
      let f : wrong_field (row_named rs k) ≡ 0 = fit_at rs (k - 1) (omega arith) fit in
      rw e
      (record {
        low = h;
        span = omega arith;
        fit = (fit_part (row_named rs k) x f a (omega arith), (fit_part (row_named rs k) ((row_named rs k).thickness - x) f (omega arith) (omega arith), tt));
        some = omega arith;
        few = omega arith;
      })

-- an edit that 13, 14, 3 and 4 let pass
pub record Free (e : Edit) (log : List ℕ) : Type 0 where
  pub named : stands e (rows_of log) ≡ true
  pub room : full e.kind (limit_of log) (length (rows_of log)) ≡ false
  pub fits : refuses (new_row_check e) ≡ false
  pub deep : depth_of (edited_rows e (rows_of log)) ≤ depth_limit

pub free : (e : Edit) (log : List ℕ) → refuses (change_checks e log) ≡ false → Free e log
unfolding change_checks
free e log h =
    let n = names_nothing e log in
    let m = full e.kind (limit_of log) (length (rows_of log)) in
    let d = too_deep (edited_rows e (rows_of log)) in
    let a = first_off (when n 13) _ h in
    let b = first_off (when m 14) _ a.1 in
    let c = first_off (new_row_check e) (when d 4) b.1 in
    record {
      named = neg_false (stands e (rows_of log)) (when_off 12 n a.0);
      room = when_off 13 m b.0;
      fits = c.0;
      deep = ltb-false depth_limit _ (when_off 3 d c.1);
    }

-- the log that is left: of the same form, with the spliced rows, and past its checks
pub record Left (e : Edit) (log : List ℕ) : Type 0 where
  pub limit : limit_of (edited_log e log) ≡ limit_of log
  pub rows : rows_of (edited_log e log) ≡ edited_rows e (rows_of log)
  pub passed : Passed (edited_log e log)

pub left : (e : Edit) (log : List ℕ) → Passed log → Lands e (limit_of log) (rows_of log) → depth_of (edited_rows e (rows_of log)) ≤ depth_limit → Left e log
unfolding edited_log edited_rows
left e log p l d =
    let q = known log p in
    let rs = rows_of log in
    let i = e.k - 1 in
    let g = gone e.kind in
    let new = splice i g (come e rs) rs in
    let n : length new + g ≡ length rs + length (come e rs) = splice_length i g (come e rs) rs l.span in
    let m : length new ≤ limit_of log = omega (arith, l.few) in
    let f : Fit new = splice_fit i g (come e rs) rs l.fit q.fit in
    record {
      limit = log_limit log q.form new;
      rows = log_has log q.form new m f;
      passed = log_passed log q.form new m f (omega (arith, l.some)) d;
    }

-- Splitting a row, or merging what was split, leaves the ground as it was.
pub split_same_ground : (k x : ℕ) (row : List ℕ) (rs : List Row) → 1 ≤ k → k ≤ length rs → x < (row_named rs k).thickness → Agree rs (edited_rows (asked 4 k x row) rs)
unfolding edited_rows
split_same_ground k x row rs h g b = split_agrees rs (k - 1) x (omega arith) (omega arith)
