-- An edit whose number is none of the four kinds: it is refused alike, and changes nothing, whatever the number.
use Rattle.rules.specs.declared.SandNumbers.{SandNumbers}
use Rattle.std.specs.Prelude.{Option}
use mathlib.Core.Path.{◌≡◌, refl, sym, ◌∙◌}
use mathlib.Core.Bool.{Bool, true, false}
use mathlib.Core.List.{List}
use Prim.Native.Nat.{ℕ}
use native.Mathlib.Omega.{arith}
use borrow.Author.Tests.{ne_eqb}
use Rattle.rules.specs.declared.Refusal.{Refusal}
use Rattle.rules.specs.Base.{pick, either, within, refuse, refuses, when, first}
use Rattle.rules.specs.Packed.{rows_of}
use Rattle.rules.specs.Edits.{asked, brings, stands}
use Rattle.rules.specs.declared.Row.{Row}
use Rattle.rules.specs.Checks.{full, lengths_wrong, edit_checks}
use Rattle.rules.specs.EditReplies.{edit_reply, edit_log, edit_table}
use Rattle.rules.proofs.Groups.{content_checks, change_checks, edit_grouped}
use Rattle.rules.proofs.RefusalLaws.{within_low, within_high, within_true}
use Rattle.rules.proofs.EditLaws.{none_stands}
use Rattle.edit_naming.specs.Asked.{known}

never : (t : Bool) → (t ≡ true → ⊥) → t ≡ false
never true h = absurd (h refl)
never false h = refl

second_refuses : (a b : Refusal) → refuses b ≡ true → refuses (first a b) ≡ true
unfolding first
second_refuses a b h = go (refuses a) refl
  where
    go : (t : Bool) → refuses a ≡ t → refuses (pick t a b) ≡ true
    go true e = e
    go false e = h

module _ (k x : ℕ) (row log pile : List ℕ) (extra : Option SandNumbers) (table : List ℕ) where
  -- 1 to 4 of what is lent, then 13
  none : Refusal
  none = first (when (either (lengths_wrong log pile table) false) 1) (first (content_checks log) (refuse 13))

  none_refuses : refuses none ≡ true
  unfolding none
  none_refuses = second_refuses _ _ (second_refuses (content_checks log) (refuse 13) refl)

  module _ (kind : ℕ) where
    checks_none : within 1 4 kind ≡ false → edit_checks (asked kind k x row) log pile table ≡ none
    unfolding none change_checks first when
    checks_none h =
        let b : brings kind ≡ false = never (brings kind) (λ e. let o : within 1 4 kind ≡ true = within_true 1 4 kind (within_low 1 2 kind e) (omega (arith, within_high 1 2 kind e)) in cc) in
        let n : stands (asked kind k x row) (rows_of log) ≡ false =
        sym (none_stands k x row (rows_of log) kind (λ e. cc (rw e at h)) (λ e. cc (rw e at h)) (λ e. cc (rw e at h)) (λ e. cc (rw e at h))) in
        edit_grouped (asked kind k x row) log pile table ∙ rw (b, n)

  module _ (kind : ℕ) where
    -- the number that is known of it is refused as the number itself, by the same check
    pub checks_known : edit_checks (asked (known kind) k x row) log pile table ≡ edit_checks (asked kind k x row) log pile table
    checks_known = go (within 1 4 kind) refl
      where
        go : (t : Bool) → within 1 4 kind ≡ t → edit_checks (asked (pick t kind 0) k x row) log pile table ≡ edit_checks (asked kind k x row) log pile table
        go true h = refl
        go false h = rw (checks_none 0 refl, checks_none kind h)

    -- and replies as it
    pub reply_known : edit_reply (asked (known kind) k x row) log pile extra table ≡ edit_reply (asked kind k x row) log pile extra table
    unfolding edit_reply
    reply_known = go (within 1 4 kind) refl
      where
        go : (t : Bool) → within 1 4 kind ≡ t → edit_reply (asked (pick t kind 0) k x row) log pile extra table ≡ edit_reply (asked kind k x row) log pile extra table
        go true h = refl
        go false h = rw (checks_none 0 refl, checks_none kind h, none_refuses)

    pub log_known : edit_log (asked (known kind) k x row) log pile table ≡ edit_log (asked kind k x row) log pile table
    unfolding edit_log
    log_known = go (within 1 4 kind) refl
      where
        go : (t : Bool) → within 1 4 kind ≡ t → edit_log (asked (pick t kind 0) k x row) log pile table ≡ edit_log (asked kind k x row) log pile table
        go true h = refl
        go false h = rw (checks_none 0 refl, checks_none kind h, none_refuses)

    pub table_known : edit_table (asked (known kind) k x row) log pile extra table ≡ edit_table (asked kind k x row) log pile extra table
    unfolding edit_table
    table_known = go (within 1 4 kind) refl
      where
        go : (t : Bool) → within 1 4 kind ≡ t → edit_table (asked (pick t kind 0) k x row) log pile extra table ≡ edit_table (asked kind k x row) log pile extra table
        go true h = refl
        go false h = rw (checks_none 0 refl, checks_none kind h, none_refuses)

-- so does what an edit names, brings and wants room for
module _ (kind : ℕ) where
  brings_none : within 1 4 kind ≡ false → brings kind ≡ false
  brings_none h = never (brings kind) (λ e. let o : within 1 4 kind ≡ true = within_true 1 4 kind (within_low 1 2 kind e) (omega (arith, within_high 1 2 kind e)) in cc)

  pub brings_known : brings (known kind) ≡ brings kind
  brings_known = go (within 1 4 kind) refl
    where
      go : (t : Bool) → within 1 4 kind ≡ t → brings (pick t kind 0) ≡ brings kind
      go true h = refl
      go false h = sym (brings_none h)

  pub full_known : (limit count : ℕ) → full (known kind) limit count ≡ full kind limit count
  full_known limit count = go (within 1 4 kind) refl
    where
      go : (t : Bool) → within 1 4 kind ≡ t → full (pick t kind 0) limit count ≡ full kind limit count
      go true h = refl
      go false h = rw (ne_eqb kind 2 (λ e. cc (rw e at h)), ne_eqb kind 4 (λ e. cc (rw e at h)))

  pub stands_known : (k x : ℕ) (row : List ℕ) (rs : List Row) → stands (asked (known kind) k x row) rs ≡ stands (asked kind k x row) rs
  stands_known k x row rs = go (within 1 4 kind) refl
    where
      go : (t : Bool) → within 1 4 kind ≡ t → stands (asked (pick t kind 0) k x row) rs ≡ stands (asked kind k x row) rs
      go true h = refl
      go false h = sym (off 0 refl) ∙ off kind h
        where
          off : (n : ℕ) → within 1 4 n ≡ false → false ≡ stands (asked n k x row) rs
          off n h = none_stands k x row rs n (λ e. cc (rw e at h)) (λ e. cc (rw e at h)) (λ e. cc (rw e at h)) (λ e. cc (rw e at h))
