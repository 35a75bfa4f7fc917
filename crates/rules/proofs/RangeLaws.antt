-- Rows whose fields are in range: what check 3 lets pass, that it fits its bits, and that it is so row by row.
use mathlib.Core.Path.{◌≡◌, refl}
use mathlib.Core.Bool.{Bool, true, false}
use mathlib.Core.List.{List, [], ◌∷◌, ◌++◌}
use Prim.Native.Nat.{ℕ, zero, suc, ◌+◌, ◌<◌, ◌≤◌}
use native.Mathlib.Omega.{arith}
use lib.Dec.{leb, eqb}
use lib.ListN.{length, get_or, take, drop}
use borrow.Author.Tests.{leb-true, eqb-true}
use Rattle.rules.specs.declared.Row.{Row}
use Rattle.rules.specs.Base.{pick, within, refuses, nothing}
use Rattle.rules.specs.Widths.{Fits}
use Rattle.rules.specs.Records.{row_widths, row_fields}
use Rattle.rules.specs.Limits.{thickness_limit}
use Rattle.rules.specs.Packed.{no_row}
use Rattle.rules.specs.Edits.{part}
use Rattle.rules.specs.Checks.{index_in_range, wrong_field, first_wrong}
use Rattle.rules.proofs.ByRows.{Positive}
use Rattle.rules.proofs.RefusalLaws.{within_low, within_high, within_true, none_picked, not_picked}
use Rattle.rules.proofs.PlacesLaws.{AllFit}

-- every row's fields are in range
abbrev pub Fit : List Row → Type 0
Fit [] = Unit {0}
Fit (r ∷ rs) = (wrong_field r ≡ 0) × Fit rs

pub fit_of : (k : ℕ) (rs : List Row) → refuses (first_wrong k rs) ≡ false → Fit rs
unfolding first_wrong
fit_of k [] h = tt
fit_of k (r ∷ rs) h =
    let p = not_picked (wrong_field r) (record { number = 3; row = k; field = wrong_field r }) (first_wrong (k + 1) rs) refl h in
    (p.0, fit_of (k + 1) rs p.1)

pub of_fit : (k : ℕ) (rs : List Row) → Fit rs → first_wrong k rs ≡ nothing
unfolding first_wrong
of_fit k [] h = refl
of_fit k (r ∷ rs) h = rw h.0 (of_fit (k + 1) rs h.1)

pub fit_append : (rs ts : List Row) → Fit rs → Fit ts → Fit (rs ++ ts)
fit_append [] ts h k = k
fit_append (r ∷ rs) ts h k = (h.0, fit_append rs ts h.1 k)

pub fit_take : (n : ℕ) (rs : List Row) → Fit rs → Fit (take n rs)
fit_take zero rs h = tt
fit_take (suc n) [] h = tt
fit_take (suc n) (r ∷ rs) h = (h.0, fit_take n rs h.1)

pub fit_drop : (n : ℕ) (rs : List Row) → Fit rs → Fit (drop n rs)
fit_drop zero rs h = h
fit_drop (suc n) [] h = tt
fit_drop (suc n) (r ∷ rs) h = fit_drop n rs h.1

pub fit_at : (rs : List Row) (i : ℕ) → i < length rs → Fit rs → wrong_field (get_or rs i no_row) ≡ 0
fit_at [] i l h = absurd (omega arith)
fit_at (r ∷ rs) zero l h = h.0
fit_at (r ∷ rs) (suc i) l h = fit_at rs i (omega arith) h.1

-- the thickness of a row whose fields are in range
pub fit_thickness : (r : Row) → wrong_field r ≡ 0 → (1 ≤ r.thickness) × (r.thickness ≤ thickness_limit)
unfolding wrong_field
fit_thickness r h =
    let p = (none_picked (within 1 thickness_limit r.thickness) _ 0 h).0 in
    (within_low 1 thickness_limit r.thickness p, within_high 1 thickness_limit r.thickness p)

pub fit_positive : (rs : List Row) → Fit rs → Positive rs
fit_positive [] h = tt
fit_positive (r ∷ rs) h = (omega (arith, (fit_thickness r h.0).0), fit_positive rs h.1)

-- a part of it
pub fit_part : (r : Row) (t : ℕ) → wrong_field r ≡ 0 → 1 ≤ t → t ≤ r.thickness → wrong_field (part t r) ≡ 0
unfolding wrong_field
fit_part r t h l g =
    let b = fit_thickness r h in
    let e : within 1 thickness_limit r.thickness ≡ true = within_true 1 thickness_limit r.thickness b.0 b.1 in
    let f : within 1 thickness_limit t ≡ true = within_true 1 thickness_limit t l (omega (arith, b.1)) in
    rw f (rw e at h)

-- the five tests of a row
pub five : (a b c d e : Bool) → ◌≡◌ {A = ℕ} (pick a (pick b (pick c (pick d (pick e 0 5) 4) 3) 2) 1) 0 → (a ≡ true) × (b ≡ true) × (c ≡ true) × (d ≡ true) × (e ≡ true)
five a b c d e h =
    let p = none_picked a _ 0 h in
    let q = none_picked b _ 1 p.1 in
    let r = none_picked c _ 2 q.1 in
    let s = none_picked d _ 3 r.1 in
    (p.0, q.0, r.0, s.0, (none_picked e _ 4 s.1).0)

index_high : (kind index : ℕ) → index_in_range kind index ≡ true → index < 256
index_high kind index h = go (leb kind 3) h
  where
    go : (t : Bool) → pick t (eqb index 100) (leb index 200) ≡ true → index < 256
    go true k = omega (arith, eqb-true index 100 k)
    go false k = omega (arith, leb-true index 200 k)

-- fields in range fit their bits
pub right_fits : (r : Row) → wrong_field r ≡ 0 → Fits row_widths (row_fields r)
unfolding wrong_field
right_fits r h =
    let p = five (within 1 thickness_limit r.thickness) (within 1 6 r.kind) (index_in_range r.kind r.index) (leb r.saturation 100) (eqb r.zero 0) h in (
      omega (arith, within_high 1 thickness_limit r.thickness p.0),
      (
        omega (arith, within_high 1 6 r.kind p.1),
        (index_high r.kind r.index p.2, (omega (arith, leb-true r.saturation 100 p.3), (omega (arith, eqb-true r.zero 0 p.4), tt))),
      ),
    )

pub fit_bits : (rs : List Row) → Fit rs → AllFit rs
fit_bits [] h = tt
fit_bits (r ∷ rs) h = (right_fits r h.0, fit_bits rs h.1)
