-- Each check of a call refuses with its own number, in the order that documents 01 and 02 list; so a refused edit and a held refusal differ by their number.
use Rattle.rules.specs.declared.SandNumbers.{SandNumbers}
use Rattle.std.specs.Prelude.{Option}
use mathlib.Core.Path.{◌≡◌, refl}
use mathlib.Core.Bool.{Bool, true, false}
use mathlib.Core.Logic.{◌⊎◌, inl, inr, ⊎_elim}
use mathlib.Core.List.{List, [], ◌∷◌, ◌++◌}
use Prim.Native.Nat.{ℕ, ◌+◌}
use lib.Dec.{ltb}
use Rattle.rules.specs.declared.Refusal.{Refusal}
use Rattle.rules.specs.declared.Row.{Row}
use Rattle.rules.specs.declared.Soil.{Soil}
use Rattle.rules.specs.declared.Pile.{Pile}
use Rattle.rules.specs.Base.{pick, both, nothing, refuses, when, first, first_of, in_order}
use Rattle.rules.specs.Packed.{row_at, rows_of, pile_of}
use Rattle.rules.specs.Ground.{soil_at, depth_of}
use Rattle.rules.specs.Edits.{Edit, brings}
use Rattle.rules.specs.Checks.{wrong_field, first_wrong, new_row_check, wrong_pile_field, section_check, one_to_four, five_on, thirteen_on, lengths_wrong, edit_lengths_wrong, ground_checks, calculation_checks, edit_checks, Numbered, OneOf}

-- one check
abbrev Own : ℕ → Refusal → Type 0
Own n r = (r.number ≡ n) ⊎ (r ≡ nothing)

picked : (t : Bool) (n : ℕ) (r : Refusal) → r.number ≡ n → Own n (pick t r nothing)
picked true n r e = inl e
picked false n r e = inr refl

when_own : (t : Bool) (n : ℕ) → Own n (when t n)
unfolding when
when_own t n = picked t n _ refl

wrong_own : (k : ℕ) (rs : List Row) → Own 3 (first_wrong k rs)
unfolding first_wrong
wrong_own k [] = inr refl
wrong_own k (r ∷ rs) = go (ltb 0 (wrong_field r)) (wrong_own (k + 1) rs)
  where
    go : (t : Bool) → Own 3 (first_wrong (k + 1) rs) → Own 3 (pick t (record { number = 3; row = k; field = wrong_field r }) (first_wrong (k + 1) rs))
    go true h = inl refl
    go false h = h

new_own : (e : Edit) → Own 3 (new_row_check e)
unfolding new_row_check
new_own e = picked (both (brings e.kind) (ltb 0 (wrong_field (row_at e.row 0)))) 3 _ refl

section_own : (p : Pile) → Own 5 (section_check p)
unfolding section_check
section_own p = picked (ltb 0 (wrong_pile_field p)) 5 _ refl

-- the list of a calculation, and that of an edit
pub pile_listed : (g : ℕ → Soil) (depth : ℕ) (p : Pile) (extra : Option SandNumbers) → Numbered (5 ∷ 6 ∷ 7 ∷ 8 ∷ 9 ∷ 10 ∷ 17 ∷ 11 ∷ 12 ∷ []) (five_on g depth p extra)
pile_listed g depth p extra =
    (section_own p, (when_own _ 6, (when_own _ 7, (when_own _ 8, (when_own _ 9, (when_own _ 10, (when_own _ 17, (when_own _ 11, (when_own _ 12, tt)))))))))

pub calculation_listed : (wrong : Bool) (log : List ℕ) (g : ℕ → Soil) (depth : ℕ) (p : Pile) (extra : Option SandNumbers)
    → Numbered (1 ∷ 2 ∷ 3 ∷ 4 ∷ 5 ∷ 6 ∷ 7 ∷ 8 ∷ 9 ∷ 10 ∷ 17 ∷ 11 ∷ 12 ∷ []) (one_to_four wrong log ++ five_on g depth p extra)
calculation_listed wrong log g depth p extra = (when_own _ 1, (when_own _ 2, (wrong_own 1 (rows_of log), (when_own _ 4, pile_listed g depth p extra))))

pub edit_listed : (wrong : Bool) (e : Edit) (log : List ℕ) → Numbered (1 ∷ 2 ∷ 3 ∷ 4 ∷ 13 ∷ 14 ∷ 3 ∷ 4 ∷ []) (one_to_four wrong log ++ thirteen_on e log)
edit_listed wrong e log = (when_own _ 1, (when_own _ 2, (wrong_own 1 (rows_of log), (when_own _ 4, (when_own _ 13, (when_own _ 14, (new_own e, (when_own _ 4, tt))))))))

-- the first of a list has one of its numbers
first_own : (n : ℕ) (ns : List ℕ) (r : Refusal) (rs : List Refusal) → Numbered (n ∷ ns) (r ∷ rs) → OneOf (n ∷ ns) (first_of r rs).number ⊎ (first_of r rs ≡ nothing)
unfolding first
first_own n [] r [] h = ⊎_elim (λ e. inl (inl e)) (λ e. inr e) h.0
first_own n [] r (t ∷ ts) h = absurd h.1
first_own n (m ∷ ms) r [] h = absurd h.1
first_own n (m ∷ ms) r (t ∷ ts) h = go (refuses r) h.0 (first_own m ms t ts h.1)
  where
    go : (b : Bool) → Own n r → OneOf (m ∷ ms) (first_of t ts).number ⊎ (first_of t ts ≡ nothing) → OneOf (n ∷ m ∷ ms) (pick b r (first_of t ts)).number ⊎ (pick b r (first_of t ts) ≡ nothing)
    go true own below = ⊎_elim (λ e. inl (inl e)) (λ e. inr e) own
    go false own below = ⊎_elim (λ k. inl (inr k)) (λ e. inr e) below

in_order_own : (ns : List ℕ) (rs : List Refusal) → Numbered ns rs → OneOf ns (in_order rs).number ⊎ (in_order rs ≡ nothing)
in_order_own [] [] h = inr refl
in_order_own [] (r ∷ rs) h = absurd h
in_order_own (n ∷ ns) [] h = absurd h
in_order_own (n ∷ ns) (r ∷ rs) h = first_own n ns r rs h

pub calculation_number : (log pile : List ℕ) (extra : Option SandNumbers) (table : List ℕ) → OneOf (1 ∷ 2 ∷ 3 ∷ 4 ∷ 5 ∷ 6 ∷ 7 ∷ 8 ∷ 9 ∷ 10 ∷ 17 ∷ 11 ∷ 12 ∷ []) (calculation_checks log pile extra table).number ⊎ (calculation_checks log pile extra table ≡ nothing)
unfolding calculation_checks
calculation_number log pile extra table =
    let g = soil_at (rows_of log) in
    let depth = depth_of (rows_of log) in
    let wrong = lengths_wrong log pile table in
    in_order_own (1 ∷ 2 ∷ 3 ∷ 4 ∷ 5 ∷ 6 ∷ 7 ∷ 8 ∷ 9 ∷ 10 ∷ 17 ∷ 11 ∷ 12 ∷ []) (one_to_four wrong log ++ five_on g depth (pile_of pile) extra) (calculation_listed wrong log g depth (pile_of pile) extra)

pub edit_number : (e : Edit) (log pile table : List ℕ) → OneOf (1 ∷ 2 ∷ 3 ∷ 4 ∷ 13 ∷ 14 ∷ 3 ∷ 4 ∷ []) (edit_checks e log pile table).number ⊎ (edit_checks e log pile table ≡ nothing)
unfolding edit_checks
edit_number e log pile table = let wrong = edit_lengths_wrong e log pile table in in_order_own (1 ∷ 2 ∷ 3 ∷ 4 ∷ 13 ∷ 14 ∷ 3 ∷ 4 ∷ []) (one_to_four wrong log ++ thirteen_on e log) (edit_listed wrong e log)

pub ground_number : (g : ℕ → Soil) (depth : ℕ) (p : Pile) (extra : Option SandNumbers) → OneOf (5 ∷ 6 ∷ 7 ∷ 8 ∷ 9 ∷ 10 ∷ 17 ∷ 11 ∷ 12 ∷ []) (ground_checks g depth p extra).number ⊎ (ground_checks g depth p extra ≡ nothing)
unfolding ground_checks
ground_number g depth p extra = in_order_own (5 ∷ 6 ∷ 7 ∷ 8 ∷ 9 ∷ 10 ∷ 17 ∷ 11 ∷ 12 ∷ []) (five_on g depth p extra) (pile_listed g depth p extra)
