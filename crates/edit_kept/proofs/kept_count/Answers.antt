-- A slice that was counted came from the same place of both tables and was the same; the next one that is used differs.
use Rattle.std.proofs.Common.{ℕ, ◌≡◌, ◌≤◌, ◌<◌, ◌∙◌, refl, sym, ap, subst, Option, None, Some, arith, rules}
use Rattle.std.specs.Option.{option_map, IfSome}
use Rattle.rules.specs.Records.{slice_size}
use Rattle.edit_kept.proofs.KeptLaws.{slice_of, kept_is}
use Rattle.edit_kept.proofs.kept_count.Goals as goal

item : {A : Type 0} (o : Option A) (y : A) → option_map (λ y. y) o ≡ Some y → o ≡ Some y
item None y e = cc
item (Some x) y e = e

at_item : {A : Type 0} (P : A → Type 0) (o : Option A) (x : A) → o ≡ Some x → IfSome o P → P x
at_item P o x e h = subst (λ o. IfSome o P) e h

pub returns : goal.returns
returns c =
    let most : c.count.result ≤ c.args.used = search rules in
    let differs : c.count.result < c.args.used → slice_of c.args.new.now c.count.result ≡ slice_of c.args.old.now c.count.result → ⊥ = search rules in
    let same : (k : ℕ) → k < c.count.result → slice_of c.args.new.now k ≡ slice_of c.args.old.now k = λ k h.
    let r = c.count.ensures.runs in
    let p = r.0 in
    let l : k < p.len = omega (arith, r.3) in
    let i = item _ _ (p.reads k (c.args.new, c.args.old) l) in
    let t = c.take_while.ensures.runs p p.seen r.1 in
    let u = c.take.ensures.runs t.0 t.0.seen t.1 in
    let j = u.1.2.0.2 k ∙ t.2.1 k l ∙ i in
    let z = c.zip.ensures.runs u.1.0 u.1.0.seen u.1.1 in
    let a = z.0 in
    let b = z.2.0 in
    let n : a.from.size ≡ slice_size = cc (z.1, c.chunks_exact.ensures.size) in
    let m : b.from.size ≡ slice_size = cc (z.2.1, c.zip.ensures.second, c.chunks_exact-2.ensures.size) in
    let f : a.from.rest.now ≡ c.args.new.now = cc (z.1, c.chunks_exact.ensures.rest) in
    let g : b.from.rest.now ≡ c.args.old.now = cc (z.2.1, c.zip.ensures.second, c.chunks_exact-2.ensures.rest) in
    let one = at_item _ _ _ (z.2.2.0.2 k ∙ ap (option_map (λ x. x.0)) j) ((c.chunks_exact.ensures.runs a a.seen (omega (arith, n))).2 k) in
    let two = at_item _ _ _ (z.2.2.1.2 k ∙ ap (option_map (λ x. x.1)) j) ((c.chunks_exact-2.ensures.runs b b.seen (omega (arith, m))).2 k) in
    let called = at_item _ _ _ i ((t.2.2 (λ a r f e. refl)).0 k) in
    let o = rw (n, f) at one.2.0 in
    let w = rw (m, g) at two.2.0 in
    sym o ∙ (search (rules, called) ∙ w) in
    (kept_is c.args.used c.args.new.now c.args.old.now c.count.result most same differs, most)
