-- That each contract of the layer edit settles its reply.
use mathlib.Core.Path.{◌≡◌, refl}
use Rattle.std.specs.Prelude.{ℕ, Option, None, Some, Result, Ok, Err, IfErr, eqb, unwrap_or, is_some}
use Rattle.std.proofs.lemmas.Bool.{false≢true, true≢false}
use Rattle.std.specs.Result.{result_ok}
use Rattle.std.proofs.Common.{sym, ap, ◌∙◌}
use Rattle.rules.specs.Base.{pick}
use Rattle.rules.specs.declared.faults.Fault.{Fault}
use Rattle.rules.specs.declared.faults.Fault.TheVariants.{NamesNothing}
use Rattle.rules.specs.Edits as rule
use Rattle.edit_naming.specs.declared.EditKind.{EditKind}
use Rattle.edit_naming.specs.declared.EditKind.TheVariants.{Replace, Insert, Remove, Split}
use Rattle.edit_naming.specs.declared.Edit.{Edit}
use Rattle.edit_naming.specs.Asked.{edit_of, number_of}
use Rattle.settled.proofs.Outcomes.{one_outcome}
use Rattle.settled.proofs.Settled.{Settled}
use Rattle.edit_naming.proofs as edit_naming
use Rattle.edit_row_places.proofs as edit_row_places
use Rattle.edit_moves.proofs as edit_moves
use Rattle.edit_changes.proofs as edit_changes
use Rattle.edit_kept.proofs as edit_kept
use Rattle.edit_checks.proofs as edit_checks
use Rattle.edit_hold.proofs as edit_hold
use Rattle.edit_reply.proofs as edit_reply

pub named_row : Settled edit_naming.named_row.Kinds.ps edit_naming.named_row.Kinds.r edit_naming.named_row.Reads.Pre edit_naming.named_row.Reads.Learnt
named_row _ _ _ h g = cc

-- a kind is told by its number
abbrev kind_from : ℕ → Option EditKind
kind_from n = pick (eqb n 1) (Some Replace) (pick (eqb n 2) (Some Insert) (pick (eqb n 3) (Some Remove) (pick (eqb n 4) (Some Split) None)))

kind_back : (kind : Option EditKind) → kind_from (number_of kind) ≡ kind
kind_back None = refl
kind_back (Some Replace) = refl
kind_back (Some Insert) = refl
kind_back (Some Remove) = refl
kind_back (Some Split) = refl

one_kind : (k l : Option EditKind) → number_of k ≡ number_of l → k ≡ l
one_kind k l h = sym (kind_back k) ∙ ap kind_from h ∙ kind_back l

one_reply_kind : (r q : Result EditKind Fault) → number_of (result_ok r) ≡ number_of (result_ok q) → IfErr r (λ fault. fault ≡ NamesNothing) → IfErr q (λ fault. fault ≡ NamesNothing) → r ≡ q
one_reply_kind (Ok k) (Ok l) h x y = ap Ok (same_some (one_kind (Some k) (Some l) h))
  where
    same_some : {k l : EditKind} → Some k ≡ Some l → k ≡ l
    same_some {k} e = ap (λ o. unwrap_or o k) e
one_reply_kind (Ok k) (Err f) h x y = absurd (true≢false (ap is_some (one_kind (Some k) None h)))
one_reply_kind (Err f) (Ok l) h x y = absurd (false≢true (ap is_some (one_kind None (Some l) h)))
one_reply_kind (Err f) (Err g) h x y = ap Err (x ∙ sym y)

one_edit : (e f : Edit) → edit_of e ≡ edit_of f → e.row ≡ f.row → e ≡ f
one_edit e f h r = λ i. record {
  kind = one_kind e.kind f.kind (ap (λ (t : rule.Edit). t.kind) h) i;
  k = ap (λ (t : rule.Edit). t.k) h i;
  x = ap (λ (t : rule.Edit). t.x) h i;
  row = r i;
}

pub kind : Settled edit_naming.EditKindTryFromU32.try_from.Kinds.ps edit_naming.EditKindTryFromU32.try_from.Kinds.r edit_naming.EditKindTryFromU32.try_from.Reads.Pre edit_naming.EditKindTryFromU32.try_from.Reads.Learnt
kind _ b d h g = one_reply_kind b.value d.value (h.0 ∙ sym g.0) h.1 g.1

pub asked : Settled edit_naming.Edit.asked.Kinds.ps edit_naming.Edit.asked.Kinds.r edit_naming.Edit.asked.Reads.Pre edit_naming.Edit.asked.Reads.Learnt
asked _ b d h g = one_edit b.value d.value (h.0 ∙ sym g.0) (h.1 ∙ sym g.1)

pub stands : Settled edit_naming.Edit.stands.Kinds.ps edit_naming.Edit.stands.Kinds.r edit_naming.Edit.stands.Reads.Pre edit_naming.Edit.stands.Reads.Learnt
stands _ _ _ h g = cc

pub brings : Settled edit_naming.Edit.brings.Kinds.ps edit_naming.Edit.brings.Kinds.r edit_naming.Edit.brings.Reads.Pre edit_naming.Edit.brings.Reads.Learnt
brings _ _ _ h g = cc

pub full : Settled edit_naming.Edit.full.Kinds.ps edit_naming.Edit.full.Kinds.r edit_naming.Edit.full.Reads.Pre edit_naming.Edit.full.Reads.Learnt
full _ _ _ h g = cc

pub close_place : Settled edit_row_places.close_place.Kinds.ps edit_row_places.close_place.Kinds.r edit_row_places.close_place.Reads.Pre edit_row_places.close_place.Reads.Learnt
close_place _ _ _ h g = (refl, cc)

pub insert_first : Settled edit_row_places.insert_first.Kinds.ps edit_row_places.insert_first.Kinds.r edit_row_places.insert_first.Reads.Pre edit_row_places.insert_first.Reads.Learnt
insert_first _ _ _ h g = (refl, cc)

pub split_first : Settled edit_row_places.split_first.Kinds.ps edit_row_places.split_first.Kinds.r edit_row_places.split_first.Reads.Pre edit_row_places.split_first.Reads.Learnt
split_first _ _ _ h g = (refl, cc)

pub replace_row : Settled edit_moves.replace_row.Kinds.ps edit_moves.replace_row.Kinds.r edit_moves.replace_row.Reads.Pre edit_moves.replace_row.Reads.Learnt
replace_row _ _ _ h g = (refl, cc)

pub insert_row : Settled edit_moves.insert_row.Kinds.ps edit_moves.insert_row.Kinds.r edit_moves.insert_row.Reads.Pre edit_moves.insert_row.Reads.Learnt
insert_row _ _ _ h g = (refl, cc)

pub remove_row : Settled edit_moves.remove_row.Kinds.ps edit_moves.remove_row.Kinds.r edit_moves.remove_row.Reads.Pre edit_moves.remove_row.Reads.Learnt
remove_row _ _ _ h g = (refl, cc)

pub split_row : Settled edit_moves.split_row.Kinds.ps edit_moves.split_row.Kinds.r edit_moves.split_row.Reads.Pre edit_moves.split_row.Reads.Learnt
split_row _ _ _ h g = (refl, cc)

pub change : Settled edit_changes.change.Kinds.ps edit_changes.change.Kinds.r edit_changes.change.Reads.Pre edit_changes.change.Reads.Learnt
change _ _ _ h g = (refl, cc)

pub table_copy : Settled edit_kept.table_copy.Kinds.ps edit_kept.table_copy.Kinds.r edit_kept.table_copy.Reads.Pre edit_kept.table_copy.Reads.Learnt
table_copy _ _ _ h g = cc

pub kept_count : Settled edit_kept.kept_count.Kinds.ps edit_kept.kept_count.Kinds.r edit_kept.kept_count.Reads.Pre edit_kept.kept_count.Reads.Learnt
kept_count _ _ _ h g = cc

pub check_edit : Settled edit_checks.check_edit.Kinds.ps edit_checks.check_edit.Kinds.r edit_checks.check_edit.Reads.Pre edit_checks.check_edit.Reads.Learnt
check_edit _ b d h g = one_outcome _ b.value d.value (h.0 ∙ sym g.0) h.1 g.1

pub hold : Settled edit_hold.hold.Kinds.ps edit_hold.hold.Kinds.r edit_hold.hold.Reads.Pre edit_hold.hold.Reads.Learnt
hold _ _ _ h g = (cc, cc)

pub edit : Settled edit_reply.edit.Kinds.ps edit_reply.edit.Kinds.r edit_reply.edit.Reads.Pre edit_reply.edit.Reads.Learnt
edit _ _ _ h g = (cc, (cc, cc))
