-- Only millimetres matter.
use mathlib.Core.Path.{◌≡◌, refl, sym, ◌∙◌, fun_ext}
use mathlib.Core.Logic.{⊎_elim}
use mathlib.Core.List.{List, [], ◌∷◌}
use Prim.Native.Nat.{ℕ, ◌-◌, ◌<◌, ◌≤◌}
use native.Mathlib.Omega.{arith}
use borrow.Author.Tests.{lt-ltb, le-ltb}
use Rattle.rules.specs.declared.Row.{Row}
use Rattle.rules.specs.Ground.{depth_of, none, soil_of, soil_at, Agree}
use Rattle.rules.proofs.Basics.{split}

pub soil_here : (r : Row) (rs : List Row) (m : ℕ) → m < r.thickness → soil_at (r ∷ rs) m ≡ soil_of r
unfolding soil_at
soil_here r rs m h = rw (lt-ltb m r.thickness h)

pub soil_below : (r : Row) (rs : List Row) (m : ℕ) → r.thickness ≤ m → soil_at (r ∷ rs) m ≡ soil_at rs (m - r.thickness)
unfolding soil_at
soil_below r rs m h = rw (le-ltb m r.thickness h)

pub past : (rs : List Row) (m : ℕ) → depth_of rs ≤ m → soil_at rs m ≡ none
unfolding soil_at depth_of
past [] m h = refl
past (r ∷ rs) m h = soil_below r rs m (omega arith) ∙ past rs (m - r.thickness) (omega arith)

pub one_ground : (rs ts : List Row) → Agree rs ts → soil_at rs ≡ soil_at ts
one_ground rs ts h =
    let d : depth_of rs ≡ depth_of ts = h.0 in
    fun_ext (λ m. ⊎_elim (λ (l : m < depth_of rs). h.1 m l) (λ (l : depth_of rs ≤ m). past rs m l ∙ sym (past ts m (omega arith))) (split m (depth_of rs)))
