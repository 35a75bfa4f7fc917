-- After any run in which an edit is accepted: what is held is the answer of the last accepted edit, and a calculation now gives it again.
use mathlib.Core.Path.{◌≡◌, refl, sym, ◌∙◌, ap}
use mathlib.Core.Bool.{Bool, true, false, true≢false}
use mathlib.Core.List.{List, [], ◌∷◌, ◌++◌}
use Prim.Native.Nat.{ℕ}
use borrow.Author.Tests.{eq-eqb}
use Rattle.rules.specs.Base.{either, neg, refuses}
use Rattle.rules.specs.Edits.{edited_log}
use Rattle.rules.specs.Checks.{formless, pile_length_wrong, lengths_wrong, edit_checks, LentPassed, Accepted}
use Rattle.rules.specs.Calculation.{fresh_table, calculated, table_after}
use Rattle.rules.specs.EditReplies.{edit_reply, edit_log, edit_table}
use Rattle.rules.specs.Runs.{Call, Desk, step, run, any_accepted, Last, Afresh, AfterRun}
use Rattle.rules.proofs.RefusalLaws.{neg_false, either_left, either_right}
use Rattle.rules.proofs.RunLaws.{refused_still, held_is}
use Rattle.edit_reply.proofs.ReplyLaws.{Allowed, allowed}
use Rattle.promises.proofs.AcceptedEdits.{passes}
use Rattle.promises.proofs.Room.{fresh_long}

abbrev refuses_here : Call → Desk → Bool
refuses_here c d = refuses (edit_checks c.edit d.log c.pile d.table)

-- where none is accepted nothing changes
pub none_after : (cs : List Call) (d : Desk) → any_accepted cs d ≡ false → run cs d ≡ d
unfolding run any_accepted
none_after [] d h = refl
none_after (c ∷ cs) d h =
    let still : step c d ≡ d = refused_still c d (neg_false _ (either_left _ _ h)) in
    none_after cs (step c d) (either_right (neg (refuses_here c d)) _ h) ∙ still

last : (cs : List Call) (d : Desk) → any_accepted cs d ≡ true → Last cs d
unfolding run any_accepted
last [] d h = absurd (true≢false (sym h))
last (c ∷ cs) d h = go (any_accepted cs (step c d)) (refuses_here c d) refl refl (last cs (step c d)) h
  where
    go : (on off : Bool) → any_accepted cs (step c d) ≡ on → refuses_here c d ≡ off → (any_accepted cs (step c d) ≡ true → Last cs (step c d)) → either (neg off) on ≡ true → Last (c ∷ cs) d
    go true off e f below k =
        let l = below e in
        record { before = c ∷ l.before; call = l.call; after = l.after; whole = ap (λ (t : List Call). c ∷ t) l.whole; accepted = l.accepted; refused = l.refused }
    go false false e f below k = record { before = []; call = c; after = cs; whole = refl; accepted = f; refused = e }
    go false true e f below k = absurd (true≢false (sym k))

run_append : (cs ts : List Call) (d : Desk) → run (cs ++ ts) d ≡ run ts (run cs d)
unfolding run
run_append [] ts d = refl
run_append (c ∷ cs) ts d = run_append cs ts (step c d)

module _ (c : Call) (d : Desk) (h : Accepted c.edit d.log c.pile d.table) where
  abbrev now : List ℕ
  now = edited_log c.edit d.log

  a : Allowed c.edit d.log c.pile d.table
  a = allowed c.edit d.log c.pile d.table h

  again : LentPassed now c.pile (fresh_table now c.pile c.extra)
  again =
      let table = fresh_table now c.pile c.extra in
      let long : pile_length_wrong c.pile ≡ false = either_left (pile_length_wrong c.pile) _ (either_right (formless d.log) _ a.lent.right) in
      let formed : formless now ≡ false = rw a.left.limit a.lent.formed in
      let lent : lengths_wrong now c.pile table ≡ false = rw (formed, long, eq-eqb _ _ (fresh_long now c.pile c.extra a.left.passed)) in
      passes now c.pile table lent a.left.passed

  afresh : Afresh c d (step c d)
  unfolding step edit_log edit_table edit_reply calculated table_after
  afresh = record {
    held = rw h;
    log = rw h a.left.passed;
    pieces = rw h again;
    answer = rw (h, again) (sym (held_is now c.pile c.extra d.table));
    table = rw (h, again);
  }

pub after_any_run : (cs : List Call) (d : Desk) → any_accepted cs d ≡ true → AfterRun cs d
unfolding run
after_any_run cs d h =
    let l = last cs d h in
    let at = run l.before d in
    let e : run cs d ≡ step l.call at = ap (λ (t : List Call). run t d) l.whole ∙ run_append l.before (l.call ∷ l.after) d ∙ none_after l.after (step l.call at) l.refused in
    record { last = l; afresh = rw e (afresh l.call at l.accepted) }
