-- What the length of a lent log or table tells: a form, of which it has the size; nothing but the length is asked.
use mathlib.Core.Path.{◌≡◌, refl, ap}
use mathlib.Core.Bool.{Bool, true, false}
use mathlib.Core.List.{List, [], ◌∷◌}
use Prim.Native.Nat.{ℕ, ◌<◌, ◌≤◌}
use native.Mathlib.Omega.{arith}
use lib.Dec.{eqb}
use lib.ListN.{length}
use borrow.Author.Tests.{eqb-true}
use Rattle.rules.specs.Base.{pick}
use Rattle.rules.specs.Limits.{row_limit, forms, log_size, table_size, form_by, limit_of, table_limit}

module _ (size : ℕ → ℕ) (len : ℕ) where
  by_size : (ns : List ℕ) → 0 < form_by size ns len → len ≡ size (form_by size ns len)
  by_size [] h = absurd (omega arith)
  by_size (n ∷ ns) h = go (eqb len (size n)) refl (form_by size ns len) (by_size ns) h
    where
      go : (t : Bool) → eqb len (size n) ≡ t → (m : ℕ) → (0 < m → len ≡ size m) → 0 < pick t n m → len ≡ size (pick t n m)
      go true e m on k = eqb-true len (size n) e
      go false e m on k = on k

  -- every form is at most the longest
  abbrev Within : List ℕ → Type 0
  Within [] = Unit {0}
  Within (n ∷ ns) = (n ≤ row_limit) × Within ns

  most : (ns : List ℕ) → Within ns → form_by size ns len ≤ row_limit
  most [] w = omega arith
  most (n ∷ ns) w = go (eqb len (size n)) (most ns w.1)
    where
      go : (t : Bool) → form_by size ns len ≤ row_limit → pick t n (form_by size ns len) ≤ row_limit
      go true h = w.0
      go false h = h

  pub form_size : 0 < form_by size forms len → len ≡ size (form_by size forms len)
  form_size h = by_size forms h

  pub form_most : form_by size forms len ≤ row_limit
  form_most = most forms (omega arith, tt)

pub limit_long : (s : List ℕ) → 0 < limit_of s → length s ≡ log_size (limit_of s)
unfolding limit_of
limit_long s h = form_size log_size (length s) h

pub limit_most : (s : List ℕ) → limit_of s ≤ row_limit
unfolding limit_of
limit_most s = form_most log_size (length s)

-- logs of one length have one form
pub limit_same : (s t : List ℕ) → length s ≡ length t → limit_of s ≡ limit_of t
unfolding limit_of
limit_same s t e = ap (form_by log_size forms) e

-- there is one form today
pub one_form : (s : List ℕ) → 0 < limit_of s → limit_of s ≡ row_limit
unfolding limit_of
one_form s h = go (eqb (length s) (log_size row_limit)) h
  where
    go : (t : Bool) → 0 < pick t row_limit 0 → pick t row_limit 0 ≡ row_limit
    go true k = refl
    go false k = absurd (omega arith)

pub table_long : (s : List ℕ) → 0 < table_limit s → length s ≡ table_size (table_limit s)
unfolding table_limit
table_long s h = form_size table_size (length s) h
