-- Fields one after another: those that are read are the word cut by their widths, and those that are put make the word.
use Rattle.std.proofs.Common.{◌≡◌, ℕ, ◌+◌, ◌-◌, ◌*◌, ◌/◌, ◌%◌, ◌^◌, List, [], ◌∷◌, sym, refl, ap, ◌∙◌, ap₂, add-zero, add_assoc, mul_assoc, add-mul, zero-add, zero-mul, arith, pow-add, shr-shr}
use native.Mathlib.Nat.{mod-add-mod}
use Rattle.rules.specs.Widths.{bits_of, fields_of, join, bytes}
use Rattle.rules.proofs.WidthLaws.{cut_mod}
use Rattle.record_bits.specs.Word.{word_size, word_bits, field_of, Taken, Written}

-- fields of these widths are taken from w, the first at bit `at`, each where the one before ended
infixr 5 ◌then◌
pub data Taking : ℕ → ℕ → List ℕ → List ℕ → Type 0 where
  end : {w at : ℕ} → Taking w at [] []
  ◌then◌ : {w at n v w' at' : ℕ} {ns vs : List ℕ} → Taken w at n v w' at' → Taking w' at' ns vs → Taking w at (n ∷ ns) (v ∷ vs)

-- k bits of the word, those that x lacks, are behind them
pub fields_taken : (k : ℕ) {w at x : ℕ} {ws vs : List ℕ} → Taking w at ws vs → at + (bits_of ws + k) ≡ word_bits → w / 2 ^ k ≡ x → vs ≡ fields_of ws x
unfolding field_of
fields_taken k end h f = refl
fields_taken k (◌then◌ {w} {at} {n} {v} {w'} {at'} {ns} {vs} t on) h f =
    let e : word_bits - (at + n) ≡ k + bits_of ns = omega arith in
    let i : at' + (bits_of ns + k) ≡ word_bits = omega arith in
    ap₂ (λ (x : ℕ) (l : List ℕ). x ∷ l) (rw (t.value, e, ← shr-shr w k (bits_of ns), f)) (fields_taken k on i (rw t.same f))

-- fields of these widths are put into w, and make w'
pub data Putting : ℕ → ℕ → List ℕ → List ℕ → ℕ → Type 0 where
  end : {w at : ℕ} → Putting w at [] [] w
  ◌then◌ : {w at n v w₁ at₁ w' : ℕ} {ns vs : List ℕ} → Written w at v n w₁ at₁ → Putting w₁ at₁ ns vs w' → Putting w at (n ∷ ns) (v ∷ vs) w'

fields_put : (k : ℕ) {w at w' : ℕ} {ws vs : List ℕ} → Putting w at ws vs w' → at + (bits_of ws + k) ≡ word_bits → w' % 2 ^ word_bits ≡ (w + join ws vs * 2 ^ k) % 2 ^ word_bits
fields_put k end h = rw (zero-mul, add-zero)
fields_put k (◌then◌ {w} {at} {n} {v} {w₁} {at₁} {w'} {ns} {vs} p on) h =
    let e : word_bits - (at + n) ≡ bits_of ns + k = omega arith in
    let i : at₁ + (bits_of ns + k) ≡ word_bits = omega arith in
    fields_put k on i ∙ rw (p.sum, e, mod-add-mod, pow-add, add-mul, mul_assoc, add_assoc)

-- the bytes of the word that they make, put into a word of zeros, where k bits are behind them
pub bytes_put : (k : ℕ) {at w₀ w y : ℕ} {b ws vs : List ℕ} → b ≡ fields_of (bytes word_size) w → Putting w₀ at ws vs w → (w₀ ≡ 0) × (at + (bits_of ws + k) ≡ word_bits) → join ws vs * 2 ^ k ≡ y
    → b ≡ fields_of (bytes word_size) y
bytes_put k {w = w} {y = y} {vs = vs} e p h f =
    let same : (x : ℕ) → fields_of (bytes word_size) (x % 2 ^ word_bits) ≡ fields_of (bytes word_size) x = cut_mod (bytes word_size) 0 in
    e ∙ sym (same w) ∙ ap (fields_of (bytes word_size)) (fields_put k p h.1 ∙ rw (h.0, zero-add, f)) ∙ same y
