-- Graded sites, 02 (i): a pile record's grade as a cut or a fill, and the depth at which the tables are read there.
use Rattle.std.specs.Prelude.{ℕ, ◌+◌, ◌*◌, ◌-◌, ◌^◌, ltb}
use Rattle.rules.specs.declared.Pile.{Pile}
use Rattle.rules.specs.Base.{pick}
use Rattle.rules.specs.Limits.{free_grade}

-- "a signed grade in its last 16 bits, two's complement: cut negative, fill positive, in millimetres": how deep the cut is, of those 16 bits as
-- a number; 0 where there is none
unfoldable pub cut_depth : ℕ → ℕ
cut_depth grade = pick (ltb grade (2 ^ 15)) 0 (2 ^ 16 - grade)

-- how high the fill is; 0 where there is none
unfoldable pub fill_height : ℕ → ℕ
fill_height grade = pick (ltb grade (2 ^ 15)) grade 0

-- "Up to 3,000 either way, tables are read as before. Beyond that, a cut c lowers every depth read in tables 7.3 and 7.8 by c less 3,000"
abbrev pub lowering : ℕ → ℕ
lowering grade = cut_depth grade - free_grade

-- "and a fill b raises it by b less 3,000."
abbrev pub raising : ℕ → ℕ
raising grade = fill_height grade - free_grade

-- a depth as read, in parts of which a millimetre has n
abbrev pub as_read : ℕ → ℕ → ℕ → ℕ
as_read grade n depth = depth + raising grade * n - lowering grade * n

-- the same pile on a site of another grade
abbrev pub with_grade : ℕ → Pile → Pile
with_grade g p = record { section = p.section; a = p.a; b = p.b; method = p.method; head = p.head; tip = p.tip; zero = p.zero; grade = g }
