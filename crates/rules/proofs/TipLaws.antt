-- What 9, 17, 11 and 12 ask of the soil below the tip, as tests and as facts: a clay tip is asked 11 and 12, a sand tip 9 and 17.
use Rattle.std.specs.Prelude.{Option, None, Some}
use mathlib.Core.Path.{◌≡◌, refl}
use mathlib.Core.Bool.{Bool, true, false, true≢false}
use mathlib.Core.Logic.{◌⊎◌, inl, inr}
use Prim.Native.Nat.{ℕ, ◌*◌, ◌≤◌}
use native.Mathlib.Omega.{arith}
use lib.Dec.{ltb, leb, eqb}
use borrow.Author.Tests.{ltb-false, leb-false, leb-true, eqb-false, le-ltb, lt-leb, le-leb}
use Rattle.rules.specs.declared.Soil.{Soil}
use Rattle.rules.specs.declared.Pile.{Pile}
use Rattle.rules.specs.declared.SandNumbers.{SandNumbers}
use Rattle.rules.specs.Base.{both, either, neg, within}
use Rattle.rules.specs.SandTips.{reduced}
use Rattle.rules.specs.Numbers.{sand, tip_of, tip_from_cut, tip_read, is_dash}
use Rattle.rules.specs.Checks.{absent, sand_unread, record_wrong, sand_wrong, too_soft, dashed}
use Rattle.rules.specs.Ranges.{Between, SoundClay, SoundSand}
use Rattle.rules.proofs.RefusalLaws.{either_left, either_right, neg_false, within_low, within_high, within_true}

-- none of the four refuses
pub record TipPasses (s : Soil) (p : Pile) (extra : Option SandNumbers) : Type 0 where
  pub nine : sand_unread s p extra ≡ false
  pub seventeen : sand_wrong s p extra ≡ false
  pub eleven : too_soft s ≡ false
  pub twelve : dashed s p ≡ false

module _ (s : Soil) (p : Pile) (extra : Option SandNumbers) where
  record_right : SoundSand s p extra → record_wrong p extra ≡ false
  record_right t =
      rw (
        t.given,
        within_true 23000 39000 _ t.angle.0 t.angle.1,
        within_true 1 30000 _ t.below.0 t.below.1,
        within_true 1 30000 _ t.above.0 t.above.1,
        le-ltb (tip_from_cut p) (4 * p.a) t.ratio,
      )

  pub tip_passes : SoundClay s p ⊎ SoundSand s p extra → TipPasses s p extra
  tip_passes (inl c) =
      let k : sand s ≡ false = lt-leb s.kind 3 c.soil in
      record { nine = rw k; seventeen = rw k; eleven = rw (k, le-ltb 160 s.index c.firm); twelve = rw (k, c.read) }
  tip_passes (inr t) =
      let k : sand s ≡ true = le-leb s.kind 3 t.soil in
      record { nine = rw (k, t.given, t.circle); seventeen = rw (k, record_right t); eleven = rw k; twelve = rw k }

  in_range : (low high n : ℕ) → neg (within low high n) ≡ false → Between low high n
  in_range low high n h = let k = neg_false (within low high n) h in (within_low low high n k, within_high low high n k)

  -- a record with nothing wrong
  pub ranges : (b : SandNumbers) → record_wrong p (Some b) ≡ false
      → Between 23000 39000 (reduced b.angle) × Between 1 30000 b.below × Between 1 30000 b.above × (4 * p.a ≤ tip_from_cut p)
  ranges b h =
      let angle = neg (within 23000 39000 (reduced b.angle)) in
      let below = neg (within 1 30000 b.below) in
      let above = neg (within 1 30000 b.above) in
      let rest = either_right angle _ h in
      let last = either_right below _ rest in (
        in_range _ _ _ (either_left angle _ h),
        in_range _ _ _ (either_left below _ rest),
        in_range _ _ _ (either_left above _ last),
        ltb-false (tip_from_cut p) (4 * p.a) (either_right above _ last),
      )

  given_right : (x : Option SandNumbers) → s.kind ≤ 3 → p.section ≡ 1 → absent x ≡ false → record_wrong p x ≡ false → SoundSand s p x
  given_right None k c a h = absurd (true≢false a)
  given_right (Some b) k c a h =
      let r = ranges b h in
      record { soil = k; base = b; given = refl; circle = c; angle = r.0; below = r.1; above = r.2; ratio = r.3 }

  pub tip_sound : Between 1 2 p.section → TipPasses s p extra → SoundClay s p ⊎ SoundSand s p extra
  tip_sound n h = go (sand s) refl h.nine h.seventeen h.eleven h.twelve
    where
      go : (t : Bool) → sand s ≡ t → both t (either (absent extra) (eqb p.section 2)) ≡ false → both t (record_wrong p extra) ≡ false
          → both (neg t) (ltb 160 s.index) ≡ false → both (neg t) (is_dash (tip_read (tip_of p) s.index)) ≡ false → SoundClay s p ⊎ SoundSand s p extra
      go false e a b c d = inl (record { soil = leb-false s.kind 3 e; firm = ltb-false 160 s.index c; read = d })
      go true e a b c d =
          let other : p.section ≡ 2 → ⊥ = eqb-false p.section 2 (either_right (absent extra) _ a) in
          inr (given_right extra (leb-true s.kind 3 e) (omega (arith, n.0, n.1, other)) (either_left (absent extra) _ a) b)
