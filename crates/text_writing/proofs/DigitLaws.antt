-- Laws of decimal digits: they are what std writes of a number, they read back to it, and none leads in vain.
use mathlib.Core.Path.{◌≡◌, refl, ◌∙◌}
use mathlib.Core.List.{List, [], ◌∷◌, ◌++◌}
use Prim.Native.Nat.{ℕ, zero, suc, ◌+◌, ◌*◌, ◌-◌, ◌/◌, ◌%◌, ◌^◌, ◌<◌, ◌≤◌}
use native.Mathlib.Omega.{arith}
use lib.ListN.{length, get_or, length-append, get_or-append}
use borrow.Author.Tests.{lt-ltb, le-ltb}
use Rattle.std.specs.Fmt.{decimal as written}
use Rattle.std.proofs.lemmas.Fmt.{AppendsLastDigit, decimal_from_appends_wide, decimal_by_steps_wide, length-decimal-le_wide}
use Rattle.rules.specs.Sheet.{digits_from, decimal}
use Rattle.text_writing.specs.Digits.{read_from, value_of}

-- the digits of a number of at most n digits, of which none is there for n of 0
digits_in : ℕ → ℕ → List ℕ
digits_in zero x = []
digits_in (suc n) x = digits_from n x

appends : AppendsLastDigit digits_in
unfolding digits_from digits_in
appends = record {
  one = λ n x h. one n x h;
  more = λ n x h. more n x h;
}
  where
    one : (n x : ℕ) → x < 10 → digits_from n x ≡ (48 + x) ∷ []
    one zero x h = let e : x % 10 ≡ x = omega arith in rw e
    one (suc n) x h = rw (lt-ltb x 10 h)

    more : (n x : ℕ) → 10 ≤ x → digits_from n x ≡ digits_in n (x / 10) ++ ((48 + x % 10) ∷ [])
    more zero x h = refl
    more (suc n) x h = rw (le-ltb x 10 h)

pub decimal_is : (x : ℕ) → x < 10 ^ 20 → decimal x ≡ written x
unfolding digits_in
decimal_is x h = decimal_from_appends_wide digits_in appends 20 x (omega arith) (length-decimal-le_wide 20 x (omega arith) h (omega arith))

pub decimal_short : (k x : ℕ) → 0 < k → x < 10 ^ k → x < 10 ^ 20 → length (decimal x) ≤ k
decimal_short k x p h l = rw (decimal_is x l) (length-decimal-le_wide k x p h (omega arith))

-- what holds of one digit, and of a digit more, holds of all digits
by_digits : (P : ℕ → List ℕ → Type 0) → ((x : ℕ) → x < 10 → P x ((48 + x) ∷ [])) → ((x : ℕ) (ds : List ℕ) → 10 ≤ x → P (x / 10) ds → P x (ds ++ ((48 + x % 10) ∷ [])))
    → (x : ℕ) → x < 10 ^ 20 → P x (decimal x)
by_digits P one more x h = rw (decimal_is x h) (decimal_by_steps_wide P one more x (omega arith))

-- Reading a number back.
read_append : (v : ℕ) (s t : List ℕ) → read_from v (s ++ t) ≡ read_from (read_from v s) t
unfolding read_from
read_append v [] t = refl
read_append v (d ∷ s) t = read_append (v * 10 + (d - 48)) s t

pub decimal_value : (x : ℕ) → x < 10 ^ 20 → value_of (decimal x) ≡ x
unfolding read_from
decimal_value x h =
    by_digits (λ x ds. value_of ds ≡ x) (λ x l. omega arith)
    (λ x ds l on. read_append 0 ds ((48 + x % 10) ∷ []) ∙ omega arith) x h

-- no leading zero
pub decimal_lead : (x : ℕ) → 0 < x → x < 10 ^ 20 → 48 < get_or (decimal x) 0 0
decimal_lead x p h =
    (by_digits (λ x ds. (1 ≤ length ds) × (0 < x → 48 < get_or ds 0 0)) (λ x l. (omega arith, λ p. omega arith))
    (λ x ds l on. (omega (arith, length-append ds ((48 + x % 10) ∷ [])), λ p. rw (get_or-append ds ((48 + x % 10) ∷ []) 0 0 on.0) (on.1 (omega arith)))) x h).1 p
