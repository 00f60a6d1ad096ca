-- The order of reads.
-- Our own choice: byte order of the path, and at one path the text, the kind, the names.
use Rattle.std.specs.Prelude.{ℕ, ◌==◌, List, Bool}
use Rattle.std.specs.Cmp.Lexicographic.{pointwise, slice_cmp}
use Rattle.std.specs.Ordering.{nat_cmp, on, then_cmp, eq_of_both}
use Rattle.std.specs.declared.cmp.Ordering.{Ordering}
use Rattle.hc_model.specs.declared.read.Read.{Read}
use Rattle.hc_model.specs.declared.read.Read.TheVariants.{KindOf, NamesOf, TextOf}

abbrev pub path_of : Read → List ℕ
path_of (TextOf path) = path
path_of (KindOf path) = path
path_of (NamesOf path) = path

abbrev pub rank_of : Read → ℕ
rank_of (TextOf path) = 0
rank_of (KindOf path) = 1
rank_of (NamesOf path) = 2

-- The path decides, and at one path the rank.
abbrev pub read_cmp : Read → Read → Ordering
read_cmp = then_cmp (on path_of (slice_cmp nat_cmp)) (on rank_of nat_cmp)

abbrev pub read_eq : Read → Read → Bool
read_eq = eq_of_both (on path_of (pointwise ◌==◌)) (on rank_of ◌==◌)
