-- When a contract settles what a call gives: any two replies that it allows are equal, and so are any two last values of each `&mut` parameter.
use mathlib.Core.Path.{◌≡◌}
use mathlib.Core.List.{List, [], ◌∷◌}
use Prim.Native.Nat.{ℕ}
use contract.Lifetimes.{Lfts}
use denote.Exit.{Exit, unchanged, leaves, Last}
use denote.Triple.End.{Fins}
use denote.Triple.Clauses.{Lasts, at_exit}
use borrow.Fn.Claims.{AllOf}
use borrow.Fn.Kinds.{ParamKind, ResultKind, In, Out, Dens, GoodsP, slots, kepts, res_t, ended_of}

-- that v is w, before the equations es, where the type of the parameter has a last value
abbrev same : {D : Type 0} (e : Exit D) (x : D) (v w : Last e x) → List (Type 0) → List (Type 0)
same unchanged x v w es = es
same (leaves L l S s r) x v w es = (v ≡ w) ∷ es

-- of each parameter
abbrev sames : {n : ℕ} (κs : Lfts n) (ps : List (ParamKind n)) (a : Dens κs ps) (v w : Fins κs (slots ps) (kepts ps) a) → List (Type 0)
sames κs [] a v w = []
sames κs (k ∷ ps) a v w = same ((k.is.slot.row κs).exit k.is.keeps) a.0 v.0 w.0 (sames κs ps a.1 v.1 w.1)

-- ps and r are a function's parameters and result (its module Kinds). Pre and Learnt are Rattle's own readings of its `requires` and its
-- `ensures` (its module Reads); good and typed are what its types say.
module _ {n : ℕ} (ps : List (ParamKind n)) (r : ResultKind n) (Pre : In n ps) (Learnt : Out n ps r) where
  pub record Given : Type 0 where
    pub κs : Lfts n
    pub args : Dens κs ps
    pub good : GoodsP κs ps args
    pub pre : Pre κs args

  pub record Reply (c : Given) : Type 0 where
    pub value : (res_t r c.κs).Denot
    pub lasts : Lasts (ended_of n ps r) c.κs c.args
    pub typed : r.is.Ok c.κs value

  abbrev pub Allows : (c : Given) → Reply c → Type 0
  Allows c b = Learnt c.κs c.args b.value (at_exit (ended_of n ps r) c.κs c.args b.lasts)

  abbrev pub Settled : Type 0
  Settled = (c : Given) (b d : Reply c) → Allows c b → Allows c d → AllOf ((b.value ≡ d.value) ∷ sames c.κs ps c.args b.lasts d.lasts)
