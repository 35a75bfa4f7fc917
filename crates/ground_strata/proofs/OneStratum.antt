-- A row and a tip have one stratum: how far it goes and which row comes next are settled.
use Rattle.std.specs.Prelude.{Option, Some, None}
use mathlib.Core.Path.{◌≡◌, refl, sym, ◌∙◌, ap}
use mathlib.Core.Bool.{true≢false}
use mathlib.Core.Logic.{⊎_elim}
use mathlib.Core.List.{List, [], ◌∷◌}
use Prim.Native.Nat.{ℕ, zero, suc, ◌-◌, ◌<◌, ◌≤◌}
use native.Mathlib.Omega.{arith}
use lib.ListN.{take}
use Rattle.rules.specs.declared.Row.{Row}
use Rattle.rules.specs.Packed.{rows_of}
use Rattle.rules.specs.Ground.{depth_of, soil_at}
use Rattle.rules.proofs.Basics.{split, same_of}
use Rattle.ground_strata.specs.declared.StratumFound.{StratumFound}
use Rattle.ground_strata.specs.declared.Stratum.{Stratum}
use Rattle.ground_strata.specs.declared.Strata.{Strata}
use Rattle.ground_strata.specs.Strata.{Reaches, Goes}

-- more rows go no less deep
deeper : (rs : List Row) (i j : ℕ) → i ≤ j → depth_of (take i rs) ≤ depth_of (take j rs)
unfolding depth_of
deeper rs zero j h = omega arith
deeper rs (suc i) zero h = absurd (omega arith)
deeper [] (suc i) (suc j) h = omega arith
deeper (r ∷ rs) (suc i) (suc j) h = omega (arith, deeper rs i j (omega arith))

module _ {log : List ℕ} {first top tip : ℕ} {r s : StratumFound} (w : Reaches log first top tip r) (v : Reaches log first top tip s) where
  not_before : r.next < s.next → ⊥
  not_before h =
      let d : r.bottom ≤ depth_of (take (s.next - 1) (rows_of log)) = omega (arith, w.bottom_is, deeper (rows_of log) r.next (s.next - 1) (omega arith)) in
      let e : r.soil ≡ soil_at (rows_of log) r.bottom = w.own ∙ sym v.own ∙ sym (v.alike r.bottom (omega (arith, w.some)) (omega (arith, v.behind))) in
      true≢false (sym (same_of r.soil (soil_at (rows_of log) r.bottom) e) ∙ w.parted (omega (arith, v.least)))

pub one_stratum : {log : List ℕ} {first top tip : ℕ} {r s : StratumFound} → Reaches log first top tip r → Reaches log first top tip s → r ≡ s
one_stratum {log} {first} {top} {tip} {r} {s} w v =
    let n : r.next ≡ s.next =
    ⊎_elim (λ (h : r.next < s.next). absurd (not_before w v h))
    (λ (h : s.next ≤ r.next). ⊎_elim (λ (k : s.next < r.next). absurd (not_before v w k)) (λ (k : r.next ≤ s.next). omega arith) (split s.next r.next))
    (split r.next s.next) in
    let b : r.bottom ≡ s.bottom = w.bottom_is ∙ ap (λ (k : ℕ). depth_of (take k (rows_of log))) n ∙ sym v.bottom_is in
    let o = w.own ∙ sym v.own in
    λ i. record { soil = o i; bottom = b i; next = n i }

-- and the walk has one next step
pub one_step : (s : Strata) (q r : Option Stratum) (t v : Strata) → Goes s q t → Goes s r v → (q ≡ r) × (t ≡ v)
one_step s None None t v w z = (refl, w.1 ∙ sym z.1)
one_step s None (Some y) t v w z = let h = z.high in absurd (omega arith)
one_step s (Some x) None t v w z = let h = w.high in absurd (omega arith)
one_step s (Some x) (Some y) t v w z =
    let o = one_stratum w.reaches z.reaches in
    let soil : x.soil ≡ y.soil = ap (λ (r : StratumFound). r.soil) o in
    let first : x.first ≡ y.first = w.first_is ∙ sym z.first_is in
    let top : x.top ≡ y.top = w.top_is ∙ sym z.top_is in
    let bottom : x.bottom ≡ y.bottom = ap (λ (r : StratumFound). r.bottom) o in
    let next : t.next ≡ v.next = ap (λ (r : StratumFound). r.next) o in
    ((λ i. Some (record { soil = soil i; first = first i; top = top i; bottom = bottom i })), w.on ∙ (λ i. record { log = s.log; tip = s.tip; next = next i; top = bottom i }) ∙ sym z.on)
