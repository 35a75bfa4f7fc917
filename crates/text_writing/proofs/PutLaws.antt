-- Laws of text put into a buffer: two puts are one, and a text made of pieces has one piece more.
use mathlib.Core.Path.{◌≡◌, refl, sym, ◌∙◌, ap}
use mathlib.Core.List.{List, [], ◌∷◌, ◌++◌, append_assoc, append-nil}
use Prim.Native.Nat.{ℕ, zero, suc, ◌+◌, ◌<◌}
use native.Mathlib.Nat.{add-zero}
use native.Mathlib.Omega.{arith}
use lib.ListN.{length, get_or, take, set, length-append}
use lib.Seq.{sets}
use Rattle.text_writing.specs.declared.Writer.{Writer}
use Rattle.text_writing.specs.Text.{Put, Puts}

-- two texts put one after the other are one text put
put_put : (buf : List ℕ) (at : ℕ) (s t : List ℕ) → sets (sets buf at s) (at + length s) t ≡ sets buf at (s ++ t)
put_put buf at [] t = ap (λ (p : ℕ). sets buf p t) (add-zero at)
put_put buf at (b ∷ s) t =
    let e : at + suc (length s) ≡ suc at + length s = omega arith in
    ap (λ (p : ℕ). sets (sets (set buf at b) (suc at) s) p t) e ∙ put_put (set buf at b) (suc at) s t

pub put_then : {buf : List ℕ} {at : ℕ} {s t mid after : List ℕ} {place next : ℕ} → Put buf at s mid place → Put mid place t after next → Put buf at (s ++ t) after next
put_then {buf} {at} {s} {t} p q =
    record { bytes = q.bytes ∙ (rw (p.bytes, p.place) (put_put buf at s t)); place = omega (arith, p.place, q.place, length-append s t) }

-- the same of a writer, where one puts after the other, and where none has put yet
pub puts_then : {a b c : Writer} {s t : List ℕ} → Puts a s b → Puts b t c → Puts a (s ++ t) c
puts_then p q = record { same_place = q.same_place ∙ p.same_place; same_buffer = q.same_buffer ∙ p.same_buffer; long = q.long ∙ p.long; put = put_then p.put q.put }

pub puts_none : (w : Writer) → Puts w [] w
puts_none w = record { same_place = refl; same_buffer = refl; long = refl; put = record { bytes = refl; place = sym (add-zero w.at) } }

-- a text `of` a list whose elements have a `piece` each: that of one element more
module _ {A : Type 0} (of : List A → List ℕ) (piece : A → List ℕ) (none : of [] ≡ []) (cons : (x : A) (xs : List A) → of (x ∷ xs) ≡ piece x ++ of xs) where
  pub piece_more : (xs : List A) (i : ℕ) (d : A) → i < length xs → of (take (suc i) xs) ≡ of (take i xs) ++ piece (get_or xs i d)
  piece_more [] i d h = absurd (omega arith)
  piece_more (x ∷ xs) zero d h = rw (cons x [], none) (append-nil (piece x))
  piece_more (x ∷ xs) (suc i) d h =
      rw (cons x (take (suc i) xs), cons x (take i xs), piece_more xs i d (omega arith))
      (sym (append_assoc (piece x) (of (take i xs)) (piece (get_or xs i d))))
