-- The used groups as a set.
use Rattle.std.specs.Prelude.{◌≡◌, ◌&&◌, ℕ, List, Option, None, Some, not, true, false}
use Rattle.std.specs.List.{list_all}
use Rattle.hc_model.specs.declared.template.Piece.{Piece}
use Rattle.hc_pattern.specs.Bits.{has_byte}
use Rattle.hc_pattern.specs.declared.set.ByteSet.{ByteSet}
use Rattle.hc_rank.specs.Ranks.{groups_in, has_twice, is_plain_piece, is_used}

-- The set has just the numbers of the list.
pub record IsSetOf (set : ByteSet) (used : List ℕ) : Type 0 where
  pub same : (number : ℕ) → has_byte set number ≡ is_used used number

-- The set of the groups of a template, where it has plain pieces alone and no group twice.
pub record AreGroupsOf (set : ByteSet) (template : List Piece) : Type 0 where
  pub holds : IsSetOf set (groups_in template)
  pub plain : list_all is_plain_piece template ≡ true
  pub once : has_twice (groups_in template) ≡ false

abbrev pub AreGroups : Option ByteSet → List Piece → Type 0
AreGroups None template = (list_all is_plain_piece template && not (has_twice (groups_in template))) ≡ false
AreGroups (Some set) template = AreGroupsOf set template
