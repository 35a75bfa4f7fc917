-- What an edit leaves: an accepted one holds the answer worked out afresh, a refused one changes nothing; and logs of one ground get equal answers.
use Rattle.rules.specs.declared.SandNumbers.{SandNumbers}
use Rattle.std.specs.Prelude.{Option}
use mathlib.Core.Path.{◌≡◌, refl, sym, ◌∙◌, ap₂}
use mathlib.Core.Bool.{Bool, true, false}
use mathlib.Core.List.{List}
use Prim.Native.Nat.{ℕ, ◌<◌}
use native.Mathlib.Omega.{arith}
use borrow.Author.Tests.{eqb-false}
use Rattle.rules.specs.declared.Answer.{Answer}
use Rattle.rules.specs.declared.Slice.{Slice}
use Rattle.rules.specs.declared.Refusal.{Refusal}
use Rattle.rules.specs.declared.Soil.{Soil}
use Rattle.rules.specs.declared.Pile.{Pile}
use Rattle.rules.specs.Base.{pick, refuses, when}
use Rattle.rules.specs.Limits.{table_size, limit_of}
use Rattle.rules.specs.Packed.{rows_of, pile_of, table_bytes}
use Rattle.rules.specs.Ground.{Agree}
use Rattle.rules.specs.Numbers.{resistance, line_of, below_tip, shaft_slices}
use Rattle.rules.specs.Checks.{formless, lengths_wrong, lent_checks, edit_checks, ground_checks}
use Rattle.rules.specs.Answers.{refused, numbers, answer}
use Rattle.rules.specs.Calculation.{answer_of, fresh_answer, fresh_table, calculated, table_after}
use Rattle.rules.specs.EditReplies.{edit_answer, edit_log, edit_table, with_kept}
use Rattle.rules.specs.Runs.{Call, Desk, step}
use Rattle.rules.proofs.RefusalLaws.{first_off, when_off, either_left}
use Rattle.rules.proofs.FormLaws.{one_form}
use Rattle.rules.proofs.AnswerLaws.{only_millimetres}

-- a worked answer keeps nothing by itself
pick_kept : (t : Bool) (r : Refusal) (a : Answer) → a.kept ≡ 0 → (pick t (refused r) a).kept ≡ 0
pick_kept true r a h = refl
pick_kept false r a h = h

ground_kept : (g : ℕ → Soil) (depth : ℕ) (p : Pile) (extra : Option SandNumbers) → (answer g depth p extra).kept ≡ 0
unfolding answer numbers
ground_kept g depth p extra =
    let r : Refusal = ground_checks g depth p extra in
    let soil = g (below_tip p) in
    pick_kept (refuses r) r (numbers soil p (resistance p extra soil) (line_of (shaft_slices g p))) refl

no_kept : (log pile : List ℕ) (extra : Option SandNumbers) → (fresh_answer log pile extra).kept ≡ 0
unfolding fresh_answer answer_of
no_kept log pile extra = ground_kept _ _ _ extra

-- what is held of an accepted edit is the answer worked out afresh
pub held_is : (log pile : List ℕ) (extra : Option SandNumbers) (table : List ℕ) → with_kept 0 (edit_answer log pile extra table) ≡ fresh_answer log pile extra
unfolding edit_answer
held_is log pile extra table = let e : (fresh_answer log pile extra).kept ≡ 0 = no_kept log pile extra in λ i. record {
  refusal = (fresh_answer log pile extra).refusal;
  kept = sym e i;
  line = (fresh_answer log pile extra).line;
  tip = (fresh_answer log pile extra).tip;
  shaft = (fresh_answer log pile extra).shaft;
  capacity = (fresh_answer log pile extra).capacity;
  uplift = (fresh_answer log pile extra).uplift;
}

-- a refused edit changes no buffer and not what is held
pub refused_still : (c : Call) (d : Desk) → refuses (edit_checks c.edit d.log c.pile d.table) ≡ true → step c d ≡ d
unfolding step edit_log edit_table
refused_still c d h = rw h

-- a log that is lent with pieces of the right length has a form
has_form : (log pile table : List ℕ) → refuses (lent_checks log pile table) ≡ false → 0 < limit_of log
unfolding lent_checks
has_form log pile table h =
    let a = when_off 0 (lengths_wrong log pile table) (first_off (when (lengths_wrong log pile table) 1) _ h).0 in
    let n : limit_of log ≡ 0 → ⊥ = eqb-false (limit_of log) 0 (either_left (formless log) _ a) in
    omega (arith, n)

-- Two logs that checks 1 to 4 let pass with the same pile record, that are equally deep and agree at every millimetre, get equal answers and
-- equal tables, whatever the tables held.
pub however_typed : (a b pile : List ℕ) (extra : Option SandNumbers) (t u : List ℕ) → refuses (lent_checks a pile t) ≡ false → refuses (lent_checks b pile u) ≡ false → Agree (rows_of a) (rows_of b)
    → (calculated a pile extra t ≡ calculated b pile extra u) × (table_after a pile extra t ≡ table_after b pile extra u)
unfolding calculated table_after fresh_answer fresh_table
however_typed a b pile extra t u h k g =
    let e = only_millimetres (rows_of a) (rows_of b) (pile_of pile) extra g in
    let f : limit_of a ≡ limit_of b = one_form a (has_form a pile t h) ∙ sym (one_form b (has_form b pile u k)) in
    (rw (h, k) e.0, rw (h, k) (ap₂ (λ (n : ℕ) (cs : List Slice). table_bytes (table_size n) cs) f e.1))
