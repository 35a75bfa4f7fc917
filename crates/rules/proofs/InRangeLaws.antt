-- Fields are in the ranges of document 01 where no check refuses them, and only there.
use mathlib.Core.Path.{◌≡◌, refl}
use mathlib.Core.Bool.{true, false}
use mathlib.Core.Logic.{⊎_elim}
use mathlib.Core.List.{List, [], ◌∷◌}
use Prim.Native.Nat.{ℕ, suc, ◌^◌, ◌<◌, ◌≤◌}
use native.Mathlib.Omega.{arith}
use lib.ListN.{length, get_or}
use lib.Dec.{eqb, leb}
use borrow.Author.Tests.{leb-true, eqb-true, le-leb, lt-leb, eq-eqb, ne_eqb}
use Rattle.rules.specs.declared.Row.{Row}
use Rattle.rules.specs.declared.Pile.{Pile}
use Rattle.rules.specs.Base.{within, nothing, refuses}
use Rattle.rules.specs.Limits.{thickness_limit}
use Rattle.rules.specs.Packed.{no_row}
use Rattle.rules.specs.Ranges.{RowInRange, PileInRange}
use Rattle.rules.specs.Checks.{index_in_range, wrong_field, a_in_range, b_in_range, wrong_pile_field, section_check, method_wrong}
use Rattle.rules.proofs.Basics.{split}
use Rattle.rules.proofs.RangeLaws.{Fit, five}
use Rattle.rules.proofs.RefusalLaws.{neg_false, within_low, within_high, within_true, none_picked, not_picked}

-- a row
index_right : (r : Row) → RowInRange r → index_in_range r.kind r.index ≡ true
index_right r h =
    ⊎_elim
    (λ (k : 3 < r.kind). rw (lt-leb r.kind 3 k, le-leb r.index 200 (h.by_index (omega arith))))
    (λ (k : r.kind ≤ 3). rw (le-leb r.kind 3 k, eq-eqb r.index 100 (h.sand k)))
    (split 3 r.kind)

pub row_right : (r : Row) → RowInRange r → wrong_field r ≡ 0
unfolding wrong_field
row_right r h =
    let t : within 1 thickness_limit r.thickness ≡ true = within_true 1 thickness_limit r.thickness h.thickness.0 h.thickness.1 in
    let k : within 1 6 r.kind ≡ true = within_true 1 6 r.kind h.kind.0 h.kind.1 in
    rw (t, k, index_right r h, le-leb r.saturation 100 h.saturation, eq-eqb r.zero 0 h.zero)

pub rows_right : (rs : List Row) → ((k : ℕ) → k < length rs → RowInRange (get_or rs k no_row)) → Fit rs
rows_right [] h = tt
rows_right (r ∷ rs) h = (row_right r (h 0 (omega arith)), rows_right rs (λ k l. h (suc k) (omega arith)))

-- and only there
pub row_in_range : (r : Row) → wrong_field r ≡ 0 → RowInRange r
unfolding wrong_field
row_in_range r h =
    let p = five (within 1 thickness_limit r.thickness) (within 1 6 r.kind) (index_in_range r.kind r.index) (leb r.saturation 100) (eqb r.zero 0) h in
    record {
      thickness = (within_low 1 thickness_limit r.thickness p.0, within_high 1 thickness_limit r.thickness p.0);
      kind = (within_low 1 6 r.kind p.1, within_high 1 6 r.kind p.1);
      sand = λ k. eqb-true r.index 100 (rw (le-leb r.kind 3 k) at p.2);
      by_index = λ k. leb-true r.index 200 (rw (lt-leb r.kind 3 (omega arith)) at p.2);
      saturation = leb-true r.saturation 100 p.3;
      zero = eqb-true r.zero 0 p.4;
    }

-- a pile record
section_right : (p : Pile) → PileInRange p → (a_in_range p ≡ true) × (b_in_range p ≡ true)
section_right p h =
    ⊎_elim
    (λ (k : 1 < p.section).
    let r = h.rectangle (omega (arith, h.section.1)) in
    (rw (ne_eqb p.section 1 (λ z. omega arith)) (within_true 300 4000 p.a r.0.0 r.0.1), rw (ne_eqb p.section 1 (λ z. omega arith)) (within_true 300 4000 p.b r.1.0 r.1.1)))
    (λ (k : p.section ≤ 1).
    let one : p.section ≡ 1 = omega (arith, h.section.0) in
    let r = h.circle one in
    (rw (eq-eqb p.section 1 one) (within_true 150 2000 p.a r.0.0 r.0.1), rw (eq-eqb p.section 1 one) (eq-eqb p.b 0 r.1)))
    (split 1 p.section)

pub pile_right : (p : Pile) → PileInRange p → (section_check p ≡ nothing) × (method_wrong p ≡ false)
unfolding section_check wrong_pile_field
pile_right p h =
    let s : within 1 2 p.section ≡ true = within_true 1 2 p.section h.section.0 h.section.1 in
    let m : within 1 3 p.method ≡ true = within_true 1 3 p.method h.method.0 h.method.1 in
    let k = section_right p h in
    (rw (s, k.0, k.1, eq-eqb p.zero 0 h.zero), rw m)

pub pile_in_range : (p : Pile) → refuses (section_check p) ≡ false → method_wrong p ≡ false → p.head < 2 ^ 16 → p.tip < 2 ^ 16 → p.grade < 2 ^ 16 → PileInRange p
unfolding section_check wrong_pile_field
pile_in_range p h m i j k =
    let f = (not_picked (wrong_pile_field p) (record { number = 5; row = 0; field = wrong_pile_field p }) nothing refl h).0 in
    let one = none_picked (within 1 2 p.section) _ 0 f in
    let a = none_picked (a_in_range p) _ 1 one.1 in
    let b = none_picked (b_in_range p) _ 2 a.1 in
    let method = neg_false (within 1 3 p.method) m in
    record {
      section = (within_low 1 2 p.section one.0, within_high 1 2 p.section one.0);
      circle = λ e.
          let t = rw (eq-eqb p.section 1 e) at a.0 in
          ((within_low 150 2000 p.a t, within_high 150 2000 p.a t), eqb-true p.b 0 (rw (eq-eqb p.section 1 e) at b.0));
      rectangle = λ e.
          let n = ne_eqb p.section 1 (λ z. omega arith) in
          let t = rw n at a.0 in
          let u = rw n at b.0 in
          ((within_low 300 4000 p.a t, within_high 300 4000 p.a t), (within_low 300 4000 p.b u, within_high 300 4000 p.b u));
      method = (within_low 1 3 p.method method, within_high 1 3 p.method method);
      head = i;
      tip = j;
      zero = eqb-true p.zero 0 (none_picked (eqb p.zero 0) _ 3 b.1).0;
      grade = k;
    }
