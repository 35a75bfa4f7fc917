-- Laws of a first refusal, and of the tests that it is made of.
use mathlib.Core.Path.{◌≡◌, refl, sym, ◌∙◌, ap}
use mathlib.Core.Bool.{Bool, true, false, true≢false}
use mathlib.Core.Logic.{◌⊎◌, inl, inr}
use mathlib.Core.List.{List}
use Prim.Native.Nat.{ℕ, suc, ◌≤◌}
use lib.Dec.{ltb, eqb}
use lib.ListN.{length}
use native.Mathlib.Omega.{arith}
use borrow.Author.Tests.{lt-ltb, le-ltb, ltb-false, eqb-true}
use Rattle.rules.specs.declared.Refusal.{Refusal}
use Rattle.rules.specs.Base.{pick, both, either, neg, within, refuse, nothing, when, refuses, first}
use Rattle.rules.specs.Records.{plain_size, graded_size}
use Rattle.rules.specs.Checks.{long_other, pile_length_wrong}

pub first_left : (a b : Refusal) → refuses a ≡ true → first a b ≡ a
unfolding first
first_left a b h = rw h

pub first_right : (a b : Refusal) → refuses a ≡ false → first a b ≡ b
unfolding first
first_right a b h = rw h

pick_off : (t : Bool) (a b : Refusal) → t ≡ refuses a → refuses (pick t a b) ≡ false → (refuses a ≡ false) × (refuses b ≡ false)
pick_off true a b e h = absurd (true≢false (e ∙ h))
pick_off false a b e h = (sym e, h)

-- nothing is refused by a first refusal only where nothing is refused by either
pub first_off : (a b : Refusal) → refuses (first a b) ≡ false → (refuses a ≡ false) × (refuses b ≡ false)
unfolding first
first_off a b h = pick_off (refuses a) a b refl h

-- where b refuses nothing either, nothing is refused
pub first_none : (a b : Refusal) → refuses a ≡ false → refuses b ≡ false → refuses (first a b) ≡ false
first_none a b h k = ap refuses (first_right a b h) ∙ k

-- checks in order, however they are grouped
pub first_assoc : (a b c : Refusal) → first (first a b) c ≡ first a (first b c)
unfolding first
first_assoc a b c = go (refuses a) refl
  where
    go : (t : Bool) → refuses a ≡ t → pick (refuses (pick (refuses a) a b)) (pick (refuses a) a b) c ≡ pick (refuses a) a (pick (refuses b) b c)
    go true e = rw (e, e)
    go false e = rw e

pub when_true : (n : ℕ) (t : Bool) → t ≡ true → when t n ≡ refuse n
unfolding when
when_true n t h = rw h

pub when_false : (n : ℕ) (t : Bool) → t ≡ false → when t n ≡ nothing
unfolding when
when_false n t h = rw h

pub when_off : (n : ℕ) (t : Bool) → refuses (when t (suc n)) ≡ false → t ≡ false
unfolding when
when_off n true h = absurd (true≢false (sym (lt-ltb 0 (suc n) (omega arith)) ∙ h))
when_off n false h = refl

pub either_left : (a b : Bool) → either a b ≡ false → a ≡ false
either_left true b e = e
either_left false b e = refl

pub either_right : (a b : Bool) → either a b ≡ false → b ≡ false
either_right true b e = absurd (true≢false e)
either_right false b e = e

pub neg_false : (t : Bool) → neg t ≡ false → t ≡ true
neg_false true h = refl
neg_false false h = cc

pub neg_true : (t : Bool) → neg t ≡ true → t ≡ false
neg_true true e = sym e
neg_true false e = refl

pub neg_twice : (t : Bool) → t ≡ neg (neg t)
neg_twice true = refl
neg_twice false = refl

pub within_low : (low high n : ℕ) → within low high n ≡ true → low ≤ n
within_low low high n e = ltb-false n low (either_left (ltb n low) (ltb high n) (neg_true _ e))

pub within_high : (low high n : ℕ) → within low high n ≡ true → n ≤ high
within_high low high n e = ltb-false high n (either_right (ltb n low) (ltb high n) (neg_true _ e))

pub within_true : (low high n : ℕ) → low ≤ n → n ≤ high → within low high n ≡ true
within_true low high n h k = rw (le-ltb n low h, le-ltb high n k)

-- a piece of the right length
pub right_long : (n : ℕ) (s : List ℕ) → long_other n s ≡ false → length s ≡ n
right_long n s h = eqb-true (length s) n (neg_false (eqb (length s) n) h)

-- of a pile record: one of its two lengths
pub right_pile : (s : List ℕ) → pile_length_wrong s ≡ false → (length s ≡ plain_size) ⊎ (length s ≡ graded_size)
right_pile s h = go (long_other plain_size s) (long_other graded_size s) refl refl h
  where
    go : (t u : Bool) → long_other plain_size s ≡ t → long_other graded_size s ≡ u → both t u ≡ false → (length s ≡ plain_size) ⊎ (length s ≡ graded_size)
    go false u e f k = inl (right_long plain_size s e)
    go true false e f k = inr (right_long graded_size s f)
    go true true e f k = absurd (true≢false k)

-- a field number that is 0 was not picked
pub none_picked : (t : Bool) (n k : ℕ) → pick t n (suc k) ≡ 0 → (t ≡ true) × (n ≡ 0)
none_picked true n k e = (refl, e)
none_picked false n k e = absurd (omega arith)

-- nor was a refusal that goes with a field number above 0
pub not_picked : (f : ℕ) (r on : Refusal) → refuses r ≡ true → refuses (pick (ltb 0 f) r on) ≡ false → (f ≡ 0) × (refuses on ≡ false)
not_picked f r on h e = go (ltb 0 f) refl e
  where
    go : (t : Bool) → ltb 0 f ≡ t → refuses (pick t r on) ≡ false → (f ≡ 0) × (refuses on ≡ false)
    go true q k = absurd (true≢false (sym h ∙ k))
    go false q k = let l : f ≤ 0 = ltb-false 0 f q in (omega arith, k)
