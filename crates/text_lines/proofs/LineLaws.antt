-- How long a line can be, and what a buffer holds after one.
use mathlib.Core.Path.{◌≡◌, refl, sym, ◌∙◌, ap}
use mathlib.Core.List.{List, [], ◌∷◌, ◌++◌}
use Prim.Native.Nat.{ℕ, zero, suc, ◌+◌, ◌-◌, ◌≤◌}
use native.Mathlib.Omega.{arith}
use lib.ListN.{length, drop, replicate, length-append, length-replicate}
use lib.Seq.{sets-eq, take_at, drop_at, drop-drop}
use Rattle.rules.specs.Sheet.{spaced, text_line}
use Rattle.text_writing.specs.declared.Writer.{Writer}
use Rattle.text_writing.specs.Text.{Put, Puts}
use Rattle.text_lines.specs.Lines.{Holds}
use Rattle.text_writing.proofs.SpacedLaws.{HaveDigits, room_for, spaced_fits}

-- the place moves by no more than numbers of so many digits take, beside the word and the newline
pub line_short : {old new : Writer} (word ks xs : List ℕ) → HaveDigits ks xs → Puts old (text_line word xs) new → new.at ≤ old.at + (length word + room_for ks + 1)
line_short word ks xs h p =
    omega (arith, p.put.place, length-append (word ++ spaced xs) (10 ∷ []), length-append word (spaced xs), spaced_fits ks xs h)

-- a text put behind what a buffer holds
drop_zeros : (n m : ℕ) → drop {A = ℕ} n (replicate m 0) ≡ replicate (m - n) 0
drop_zeros zero m = let e : m - 0 ≡ m = omega arith in rw e
drop_zeros (suc n) zero = let e : 0 - suc n ≡ 0 = omega arith in rw e
drop_zeros (suc n) (suc m) = let e : suc m - suc n ≡ m - n = omega arith in rw e (drop_zeros n m)

pub holds_none : (n : ℕ) (buf : List ℕ) → buf ≡ replicate n 0 → Holds n buf 0 []
holds_none n buf z = let e : n - 0 ≡ n = omega arith in record { bytes = rw e z; place = refl; room = omega arith }

pub holds_more : {n at next : ℕ} {buf text s after : List ℕ} → Holds n buf at text → Put buf at s after next → next ≤ n → Holds n after next (text ++ s)
holds_more {n} {at} {next} {buf} {text} {s} h p l =
    let zeros : List ℕ = replicate (n - at) 0 in
    let long : at + length s ≤ length buf = omega (arith, p.place, h.place, ap length h.bytes, length-append text zeros, length-replicate {A = ℕ} (n - at) 0) in
    let left : n - at - length s ≡ n - next = omega (arith, p.place) in
    record {
      bytes =
          p.bytes ∙ sets-eq s buf at long
          ∙ (rw (h.bytes, take_at text zeros at (sym h.place), ← drop-drop (length s) at (text ++ zeros), drop_at text zeros at (sym h.place), drop_zeros, left));
      place = omega (arith, p.place, h.place, length-append text s);
      room = l;
    }
