-- That a refusal tells its fault, so that a reply which is refused or has a value is settled by its refusal and its value.
use Rattle.std.specs.Prelude.{◌≡◌, ℕ, Option, None, Some, Result, Ok, Err, IfOk, eqb, unwrap_or, is_some, IfSome, ◌<◌, ◌≤◌}
use Rattle.std.proofs.Common.{refl, sym, ap, ◌∙◌, arith}
use Rattle.std.proofs.lemmas.Bool.{false≢true, true≢false}
use Rattle.rules.specs.declared.Refusal.{Refusal}
use Rattle.rules.specs.declared.faults.RowField.{RowField}
use Rattle.rules.specs.declared.faults.RowField.TheVariants as row_field
use Rattle.rules.specs.declared.faults.PileField.{PileField}
use Rattle.rules.specs.declared.faults.PileField.TheVariants as pile_field
use Rattle.rules.specs.declared.faults.Fault.{Fault}
use Rattle.rules.specs.declared.faults.Fault.TheVariants.{Length, Unused, Row, TooDeep, Section, Method, Depths, LogShort, SandUnread, SeatShort, TooSoft, Dashed, NamesNothing, Full, SandWrong}
use Rattle.rules.specs.Base.{pick}
use Rattle.rules.specs.Faults.{row_field_of, refusal_of, refusal_in}

-- the field of a number, the fault of a refusal, and what is refused
abbrev row_field_from : ℕ → Option RowField
row_field_from n =
    pick (eqb n 1) (Some row_field.Thickness)
    (pick (eqb n 2) (Some row_field.Kind)
    (pick (eqb n 3) (Some row_field.Index)
    (pick (eqb n 4) (Some row_field.Saturation)
    (pick (eqb n 5) (Some row_field.Zero) None))))

abbrev pile_field_from : ℕ → Option PileField
pile_field_from n =
    pick (eqb n 1) (Some pile_field.Section)
    (pick (eqb n 2) (Some pile_field.A)
    (pick (eqb n 3) (Some pile_field.B)
    (pick (eqb n 4) (Some pile_field.Zero) None)))

abbrev fault_of_row : ℕ → Option RowField → Option Fault
fault_of_row k None = None
fault_of_row k (Some field) = Some (Row k field)

abbrev fault_of_section : Option PileField → Option Fault
fault_of_section None = None
fault_of_section (Some field) = Some (Section field)

abbrev fault_from : Refusal → Option Fault
fault_from r =
    pick (eqb r.number 1) (Some Length)
    (pick (eqb r.number 2) (Some Unused)
    (pick (eqb r.number 3) (fault_of_row r.row (row_field_from r.field))
    (pick (eqb r.number 4) (Some TooDeep)
    (pick (eqb r.number 5) (fault_of_section (pile_field_from r.field))
    (pick (eqb r.number 6) (Some Method)
    (pick (eqb r.number 7) (Some Depths)
    (pick (eqb r.number 8) (Some LogShort)
    (pick (eqb r.number 9) (Some SandUnread)
    (pick (eqb r.number 10) (Some SeatShort)
    (pick (eqb r.number 11) (Some TooSoft)
    (pick (eqb r.number 12) (Some Dashed)
    (pick (eqb r.number 13) (Some NamesNothing)
    (pick (eqb r.number 14) (Some Full)
    (pick (eqb r.number 17) (Some SandWrong) None))))))))))))))

fault_back : (f : Fault) → fault_from (refusal_of f) ≡ Some f
fault_back Length = refl
fault_back Unused = refl
fault_back (Row k row_field.Thickness) = refl
fault_back (Row k row_field.Kind) = refl
fault_back (Row k row_field.Index) = refl
fault_back (Row k row_field.Saturation) = refl
fault_back (Row k row_field.Zero) = refl
fault_back TooDeep = refl
fault_back (Section pile_field.Section) = refl
fault_back (Section pile_field.A) = refl
fault_back (Section pile_field.B) = refl
fault_back (Section pile_field.Zero) = refl
fault_back Method = refl
fault_back Depths = refl
fault_back LogShort = refl
fault_back SandUnread = refl
fault_back SeatShort = refl
fault_back TooSoft = refl
fault_back Dashed = refl
fault_back NamesNothing = refl
fault_back Full = refl
fault_back SandWrong = refl

abbrev fault_in : {A : Type 0} → Result A Fault → Option Fault
fault_in (Ok a) = None
fault_in (Err f) = Some f

told : {A : Type 0} (r : Result A Fault) → fault_from (refusal_in r) ≡ fault_in r
told (Ok a) = refl
told (Err f) = fault_back f

same_some : {f g : Fault} → Some f ≡ Some g → f ≡ g
same_some {f} h = ap (λ o. unwrap_or o f) h

-- two replies with one refusal, whose values are both v
module _ {A : Type 0} (v : A) where
  one_by_fault : (r q : Result A Fault) → fault_in r ≡ fault_in q → IfOk r (λ a. a ≡ v) → IfOk q (λ a. a ≡ v) → r ≡ q
  one_by_fault (Ok a) (Ok b) s x y = ap Ok (x ∙ sym y)
  one_by_fault (Ok a) (Err g) s x y = absurd (false≢true (ap is_some s))
  one_by_fault (Err f) (Ok b) s x y = absurd (true≢false (ap is_some s))
  one_by_fault (Err f) (Err g) s x y = ap Err (same_some s)

  pub one_outcome : (r q : Result A Fault) → refusal_in r ≡ refusal_in q → IfOk r (λ a. a ≡ v) → IfOk q (λ a. a ≡ v) → r ≡ q
  one_outcome r q h = one_by_fault r q (sym (told r) ∙ ap fault_from h ∙ told q)

pub one_fault : (f g : Fault) → refusal_of f ≡ refusal_of g → f ≡ g
one_fault f g h = same_some (sym (fault_back f) ∙ ap fault_from h ∙ fault_back g)

-- two replies of a check with one refusal
pub one_check : (r q : Result (Unit {0}) Fault) → refusal_in r ≡ refusal_in q → r ≡ q
one_check (Ok a) (Ok b) h = refl
one_check (Ok a) (Err g) h = absurd (false≢true (ap is_some (sym (told (Ok a)) ∙ ap fault_from h ∙ told {A = Unit {0}} (Err g))))
one_check (Err f) (Ok b) h = absurd (true≢false (ap is_some (sym (told {A = Unit {0}} (Err f)) ∙ ap fault_from h ∙ told (Ok b))))
one_check (Err f) (Err g) h = ap Err (one_fault f g h)

-- two replies with one refusal whose values are one where both have one
module _ {A : Type 0} where
  one_by_value : (r q : Result A Fault) → fault_in r ≡ fault_in q → ((a b : A) → r ≡ Ok a → q ≡ Ok b → a ≡ b) → r ≡ q
  one_by_value (Ok a) (Ok b) s e = ap Ok (e a b refl refl)
  one_by_value (Ok a) (Err g) s e = absurd (false≢true (ap is_some s))
  one_by_value (Err f) (Ok b) s e = absurd (true≢false (ap is_some s))
  one_by_value (Err f) (Err g) s e = ap Err (same_some s)

  pub one_reply : (r q : Result A Fault) → refusal_in r ≡ refusal_in q → ((a b : A) → r ≡ Ok a → q ≡ Ok b → a ≡ b) → r ≡ q
  one_reply r q h = one_by_value r q (sym (told r) ∙ ap fault_from h ∙ told q)

-- a limit is above 0 and at most n
module _ (n : ℕ) where
  pub one_limit : (r q : Option ℕ) → unwrap_or r 0 ≡ unwrap_or q 0 → IfSome r (λ l. (0 < l) × (l ≤ n)) → IfSome q (λ l. (0 < l) × (l ≤ n)) → r ≡ q
  one_limit None None h x y = refl
  one_limit None (Some l) h x y = absurd (omega (arith, y.0, h))
  one_limit (Some k) None h x y = absurd (omega (arith, x.0, h))
  one_limit (Some k) (Some l) h x y = ap Some h

-- a field is told by its number
pub one_row_field : (f g : Option RowField) → row_field_of f ≡ row_field_of g → f ≡ g
one_row_field f g h = sym (back f) ∙ ap row_field_from h ∙ back g
  where
    back : (f : Option RowField) → row_field_from (row_field_of f) ≡ f
    back None = refl
    back (Some row_field.Thickness) = refl
    back (Some row_field.Kind) = refl
    back (Some row_field.Index) = refl
    back (Some row_field.Saturation) = refl
    back (Some row_field.Zero) = refl
