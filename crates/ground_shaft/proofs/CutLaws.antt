-- The loop that cuts one stratum a turn: what is cut, and what is left of the millimetre definition; and where the tip stands.
use mathlib.Core.Path.{◌≡◌, refl, sym, ◌∙◌, ap}
use mathlib.Core.Bool.{false}
use mathlib.Core.List.{List, [], ◌∷◌, ◌++◌, append_assoc, append-nil}
use Prim.Native.Nat.{ℕ, ◌+◌, ◌*◌, ◌-◌, ◌<◌, ◌≤◌, min, max}
use native.Mathlib.Omega.{arith}
use lib.ListN.{length, replicate, length-append}
use Rattle.rules.specs.declared.Row.{Row}
use Rattle.rules.specs.declared.Soil.{Soil}
use Rattle.rules.specs.declared.Pile.{Pile}
use Rattle.rules.specs.declared.Slice.{Slice}
use Rattle.rules.specs.Records.{row_size, slice_size}
use Rattle.rules.specs.Limits.{limit_of, places_for}
use Rattle.rules.specs.Bounds.{weight_bound}
use Rattle.rules.specs.Packed.{count_of, row_at, rows_of, table_bytes}
use Rattle.rules.specs.Ground.{depth_of, same, soil_at, soil_of}
use Rattle.rules.specs.Pieces.{Piece, pieces_from, pieces, run_top}
use Rattle.rules.specs.Numbers.{slice_of, slice_each, friction_sum}
use Rattle.rules.proofs.PassedLaws.{known}
use Rattle.rules.proofs.RoomLaws.{slices_room}
use Rattle.rules.proofs.StratumLaws.{no_pieces, stratum_cut, top_here}
use Rattle.record_log_checks.specs.declared.checked.PassedLog.{PassedLog}
use Rattle.record_slice_table.specs.Table.{put_all}
use Rattle.record_slice_table.proofs.TableLaws.{Filled, filled_none, filled_long, filled_all}
use Rattle.ground_cuts.specs.declared.Cut.{Cut}
use Rattle.ground_cuts.specs.Cuts.{slices_in}
use Rattle.ground_strata.specs.declared.StratumFound.{StratumFound}
use Rattle.ground_strata.specs.declared.Stratum.{Stratum}
use Rattle.ground_strata.specs.declared.Strata.{Strata}
use Rattle.ground_strata.specs.Strata.{Reaches, Walks, Next, from_ground}
use Rattle.ground_shaft.specs.declared.Shaft.{Shaft}
use Rattle.ground_shaft.specs.Shafts.{Ready, cut_of, shaft_of}

each_append : (p : Pile) (cs ds : List Piece) → slice_each p (cs ++ ds) ≡ slice_each p cs ++ slice_each p ds
unfolding slice_each
each_append p [] ds = refl
each_append p (c ∷ cs) ds = ap (λ (x : List Slice). slice_of p c ∷ x) (each_append p cs ds)

sum_append : (cs ds : List Slice) → friction_sum (cs ++ ds) ≡ friction_sum cs + friction_sum ds
unfolding friction_sum
sum_append [] ds = omega arith
sum_append (c ∷ cs) ds = omega (arith, sum_append cs ds)

-- the slices of the shaft from depth b down
abbrev left_of : List Row → Pile → ℕ → List Slice
left_of rs p b = slice_each p (pieces_from (soil_at rs) (max p.head b) (p.tip - max p.head b))

-- the slices of a stratum's part of the shaft
abbrev pub part_of : Pile → ℕ → StratumFound → List Slice
part_of p top r = slices_in p r.soil (max p.head top) (min p.tip r.bottom)

-- every stratum above what is left is cut
pub record Doing (log : PassedLog) (p : Pile) (size : ℕ) (bytes : List ℕ) (shaft : Shaft) (first : ℕ) (s : Strata) : Type 0 where
  pub can : Walks s
  pub log_is : s.log ≡ log
  pub tip_is : s.tip ≡ p.tip
  pub cut : List Slice
  pub rest : cut_of (rows_of log.bytes.now) p ≡ cut ++ left_of (rows_of log.bytes.now) p s.top
  pub table : Filled size cut bytes shaft.used
  pub sums : shaft.sum ≡ friction_sum cut
  pub small : shaft.sum ≤ weight_bound * min p.tip s.top
  pub parted : 0 < s.top → s.top ≤ p.tip → same (soil_at (rows_of log.bytes.now) (s.top - 1)) (soil_at (rows_of log.bytes.now) s.top) ≡ false
  pub row : p.tip < s.top → first < count_of log.bytes.now
  pub soil : p.tip < s.top → soil_of (row_at log.bytes.now (1 + first * row_size)) ≡ soil_at (rows_of log.bytes.now) p.tip
  pub top_is : p.tip < s.top → shaft.top ≡ run_top (soil_at (rows_of log.bytes.now)) (soil_at (rows_of log.bytes.now) p.tip) p.tip

pub doing_none : (log : PassedLog) (p : Pile) (size : ℕ) (bytes : List ℕ) (shaft : Shaft) (first : ℕ) (s : Strata) → Ready log p size → bytes ≡ replicate size 0
    → shaft.used ≡ 0 → shaft.sum ≡ 0 → s ≡ from_ground log p.tip → Doing log p size bytes shaft first s
unfolding pieces friction_sum depth_of
doing_none log p size bytes shaft first s a e u z f =
    let top : s.top ≡ 0 = ap (λ (x : Strata). x.top) f in
    let h : max p.head s.top ≡ p.head = omega arith in
    record {
      can = rw f (record { deep = a.deep; top_is = refl });
      log_is = ap (λ (x : Strata). x.log) f;
      tip_is = ap (λ (x : Strata). x.tip) f;
      cut = [];
      rest = rw h refl;
      table = rw (e, u) (filled_none size);
      sums = z;
      small = omega arith;
      parted = λ k l. absurd (omega arith);
      row = λ k. absurd (omega arith);
      soil = λ k. absurd (omega arith);
      top_is = λ k. absurd (omega arith);
    }

-- a shaft has no more slices than a table has places
few : {log : PassedLog} {p : Pile} {size : ℕ} → Ready log p size → length (cut_of (rows_of log.bytes.now) p) ≤ places_for (limit_of log.bytes.now)
few {log} {p} a =
    let k = known log.bytes.now log.passed in
    slices_room (rows_of log.bytes.now) p (limit_of log.bytes.now) (omega (arith, k.rows, k.few)) (omega (arith, a.deep)) a.near

module _ {log : PassedLog} {p : Pile} {size : ℕ} (a : Ready log p size) {bytes : List ℕ} {shaft : Shaft} {first : ℕ} {s : Strata} (g : Doing log p size bytes shaft first s) where
  pub doing_long : length bytes ≡ size
  doing_long = filled_long size g.cut bytes shaft.used (omega (arith, a.room, few a, ap length g.rest, length-append g.cut (left_of (rows_of log.bytes.now) p s.top), g.table.0)) g.table

  module _ {x : Stratum} {t : Strata} (n : Next s x t) where
    abbrev found : StratumFound
    found = record { soil = x.soil; bottom = x.bottom; next = t.next }

    reaches : Reaches log.bytes.now s.next s.top p.tip found
    reaches = rw (g.log_is, g.tip_is) at n.reaches

    high : s.top ≤ p.tip
    high = omega (arith, n.high, g.tip_is)

    abbrev part : List Slice
    part = part_of p s.top found

    next_is : left_of (rows_of log.bytes.now) p s.top ≡ part ++ left_of (rows_of log.bytes.now) p x.bottom
    next_is = let w = reaches in ap (slice_each p) (stratum_cut (soil_at (rows_of log.bytes.now)) x.soil p.head p.tip s.top x.bottom w.some w.alike (λ l. w.parted (omega arith))) ∙ each_append p _ _

    more : cut_of (rows_of log.bytes.now) p ≡ (g.cut ++ part) ++ left_of (rows_of log.bytes.now) p x.bottom
    more = g.rest ∙ ap (λ (z : List Slice). g.cut ++ z) next_is ∙ sym (append_assoc g.cut part _)

    places : shaft.used + length part ≤ places_for (limit_of log.bytes.now)
    places = omega (arith, few a, ap length more, length-append (g.cut ++ part) (left_of (rows_of log.bytes.now) p x.bottom), length-append g.cut part, g.table.0)

    room : (shaft.used + length part) * slice_size ≤ size
    room = omega (arith, places, a.room)

    pub doing_room : (from end : ℕ) → from ≡ max p.head x.top → end ≡ min p.tip x.bottom → (shaft.used + length (slices_in p x.soil from end)) * slice_size ≤ length bytes
    doing_room from end f k = rw (f, n.top_is, k, doing_long) room

    -- its part, as it was cut
    pub doing_more : (from end : ℕ) (q : Cut) (e : List ℕ) → Walks t → from ≡ max p.head x.top → end ≡ min p.tip x.bottom
        → (q ≡ record { used = shaft.used + length (slices_in p x.soil from end); sum = friction_sum (slices_in p x.soil from end) }) × (q.sum ≤ weight_bound * (end - from))
        → e ≡ put_all bytes shaft.used (slices_in p x.soil from end)
        → Doing log p size e (record { used = q.used; sum = shaft.sum + q.sum; soil = shaft.soil; top = x.top }) x.first t
    doing_more from end q e can f k y z =
        let w = reaches in
        let is : slices_in p x.soil from end ≡ part = rw (f, k, n.top_is) in
        let count : q.used ≡ shaft.used + length part = ap (λ (v : Cut). v.used) y.0 ∙ ap (λ (v : List Slice). shaft.used + length v) is in
        let sum_is : q.sum ≡ friction_sum part = ap (λ (v : Cut). v.sum) y.0 ∙ ap friction_sum is in
        let on : soil_at (rows_of log.bytes.now) s.top ≡ x.soil = w.alike s.top (omega arith) w.some in
        let last : soil_at (rows_of log.bytes.now) (x.bottom - 1) ≡ x.soil = w.alike (x.bottom - 1) (omega (arith, w.some)) (omega (arith, w.some)) in
        let top : t.top ≡ x.bottom = ap (λ (v : Strata). v.top) n.on in
        record {
          can = can;
          log_is = ap (λ (v : Strata). v.log) n.on ∙ g.log_is;
          tip_is = ap (λ (v : Strata). v.tip) n.on ∙ g.tip_is;
          cut = g.cut ++ part;
          rest = more ∙ ap (λ (v : ℕ). (g.cut ++ part) ++ left_of (rows_of log.bytes.now) p v) (sym top);
          table = rw (count, z, is) (filled_all size g.cut part bytes shaft.used room g.table);
          sums = omega (arith, g.sums, sum_is, sum_append g.cut part);
          small = omega (arith, g.small, y.1, w.some, top, n.top_is);
          parted = rw top (λ k l. rw last (w.parted l));
          row = λ k. rw n.first_is w.row;
          soil = rw (top, n.first_is) (λ k. sym (w.alike p.tip high k ∙ w.own));
          top_is = rw top (λ k. n.top_is ∙ sym (top_here (soil_at (rows_of log.bytes.now)) p.tip s.top x.bottom high k (λ m j v. w.alike m j v ∙ sym on) (λ o. g.parted o high)));
        }

  -- the tip stands on the last of them
  module _ (h : s.tip < s.top) where
    below : p.tip < s.top
    below = omega (arith, g.tip_is)

    all_cut : cut_of (rows_of log.bytes.now) p ≡ g.cut
    unfolding slice_each
    all_cut = g.rest ∙ ap (λ (z : List Slice). g.cut ++ z) (ap (slice_each p) (no_pieces (soil_at (rows_of log.bytes.now)) (max p.head s.top) (p.tip - max p.head s.top) (omega (arith, below)))) ∙ append-nil g.cut

    -- with the soil of that row
    pub all : (soil : Soil) → soil ≡ soil_of (row_at log.bytes.now (1 + first * row_size))
        → (record { used = shaft.used; sum = shaft.sum; soil = soil; top = shaft.top } ≡ shaft_of (rows_of log.bytes.now) p) × (shaft.sum ≤ weight_bound * p.tip)
    unfolding shaft_of
    all soil e = (rw (all_cut, g.sums, ← g.table.0, e, g.soil below, g.top_is below) refl, omega (arith, g.small, below))

    pub row_there : first < count_of log.bytes.now
    row_there = g.row below

    pub all_bytes : bytes ≡ table_bytes size (cut_of (rows_of log.bytes.now) p)
    all_bytes = g.table.1 ∙ ap (table_bytes size) (sym all_cut)
