-- Whether the parts of an expression hold, step by step.
use Rattle.std.specs.Prelude.{List, [], ◌∷◌, Bool, true, false, not, ◌&&◌, ◌||◌, is_some}
use Rattle.std.specs.Str.{bytes_eq}
use Rattle.hc_addr.specs.Addresses.{addr_of}
use Rattle.hc_model.specs.declared.expression.ExprStep.{ExprStep}
use Rattle.hc_model.specs.declared.expression.ExprStep.TheVariants as step
use Rattle.hc_model.specs.declared.request.View.{View}
use Rattle.hc_ways.specs.Kept.{first_match}
use Rattle.hc_expr.specs.Values.{is_in, text_of}

abbrev pub negated_top : List Bool → List Bool
negated_top [] = []
negated_top (part ∷ held) = not part ∷ held

-- The first part is on top.
abbrev pub joined_top : (Bool → Bool → Bool) → List Bool → List Bool
joined_top join (first ∷ second ∷ held) = join first second ∷ held
joined_top join held = held

abbrev pub with_held : View → ExprStep → List Bool → List Bool
with_held view step.Yes held = true ∷ held
with_held view step.No held = false ∷ held
with_held view (step.Same left right) held = bytes_eq (text_of view left) (text_of view right) ∷ held
with_held view (step.Search text pattern) held = is_some (first_match (text_of view text) pattern) ∷ held
with_held view (step.IpMatch text net) held = is_in net (addr_of (text_of view text)) ∷ held
with_held view step.Not held = negated_top held
with_held view step.And held = joined_top (λ first second. first && second) held
with_held view step.Or held = joined_top (λ first second. first || second) held

abbrev pub held_after : View → List ExprStep → List Bool → List Bool
held_after view [] held = held
held_after view (step ∷ steps) held = held_after view steps (with_held view step held)

abbrev pub top_held : List Bool → Bool
top_held [] = false
top_held (part ∷ held) = part
