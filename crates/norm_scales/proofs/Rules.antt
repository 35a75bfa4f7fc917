-- Each branch of a rule for steps, whatever numbers it has, against the printed scale: by a test at every number from a on and below b.
use mathlib.Core.Path.{◌≡◌}
use mathlib.Core.Bool.{Bool}
use mathlib.Core.List.{List}
use Prim.Native.Nat.{ℕ, ◌+◌, ◌*◌, ◌-◌, ◌/◌, ◌<◌, ◌≤◌, min}
use lib.Dec.{T, eqb, eqb→eq, ltb}
use Rattle.rules.specs.Base.{both, either}
use Rattle.rules.proofs.TableLaws.{every, both_left, both_right}
use Rattle.norm_spots.proofs.Rows.{from}
use Rattle.norm_scales.specs.declared.Step.{Step}
use Rattle.norm_scales.specs.Scales.{step_of}

abbrev alike : Step → Step → Bool
alike s t = both (eqb s.place t.place) (both (eqb s.mark t.mark) (eqb s.next t.next))

alike_is : (s t : Step) → T (alike s t) → s ≡ t
alike_is s t h =
    let place = eqb→eq _ _ (both_left (eqb s.place t.place) _ h) in
    let rest = both_right (eqb s.place t.place) _ h in
    let mark = eqb→eq _ _ (both_left (eqb s.mark t.mark) _ rest) in
    let next = eqb→eq _ _ (both_right (eqb s.mark t.mark) _ rest) in
    λ i. record { place = place i; mark = mark i; next = next i }

module _ (marks : List ℕ) (m a b k : ℕ) (h : a ≤ k) (l : k < b) where
  abbrev Agree : (ℕ → Step) → Type 0
  Agree f = T (every b (λ i. either (ltb i a) (alike (f i) (step_of marks m i))))

  same : (f : ℕ → Step) → Agree f → f k ≡ step_of marks m k
  same f t = alike_is _ _ (from a b (λ i. alike (f i) (step_of marks m i)) t k h l)

  pub fixed : (place mark next : ℕ) → Agree (λ i. record { place = place; mark = mark; next = next }) → record { place = place; mark = mark; next = next } ≡ step_of marks m k
  fixed place mark next = same (λ i. record { place = place; mark = mark; next = next })

  pub counted : (less more : ℕ) → Agree (λ i. record { place = i - less; mark = i; next = i + more }) → record { place = k - less; mark = k; next = k + more } ≡ step_of marks m k
  counted less more = same (λ i. record { place = i - less; mark = i; next = i + more })

  -- marks that rise with the place, by a rule for the place
  module _ (place : ℕ → ℕ) (n p q r x : ℕ) (e : x ≡ place k) where
    pub rising : Agree (λ i. record { place = place i; mark = n * place i + p; next = q * place i + r }) → record { place = x; mark = n * x + p; next = q * x + r } ≡ step_of marks m k
    rising t = rw e (same (λ i. record { place = place i; mark = n * place i + p; next = q * place i + r }) t)

    pub falling : Agree (λ i. record { place = place i; mark = n * place i - p; next = q * place i - r }) → record { place = x; mark = n * x - p; next = q * x - r } ≡ step_of marks m k
    falling t = rw e (same (λ i. record { place = place i; mark = n * place i - p; next = q * place i - r }) t)

-- the rules for places, of whatever numbers
abbrev pub less_shared : ℕ → ℕ → ℕ → ℕ → ℕ
less_shared most less by i = min ((i - less) / by) most

abbrev pub shared_less : ℕ → ℕ → ℕ → ℕ → ℕ
shared_less most by less i = min (i / by - less) most

abbrev pub shared_more : ℕ → ℕ → ℕ → ℕ
shared_more by more i = i / by + more

abbrev pub most_shared : ℕ → ℕ → ℕ → ℕ → ℕ
most_shared most by more i = min (i / by + more) most
