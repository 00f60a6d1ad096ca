-- The shape of a text in hand: one known text, a slot between known texts, or more.
use Rattle.std.specs.Prelude.{ℕ, List, Option, None, Some, ◌++◌}
use Rattle.hc_plan.specs.States.{Part, Sole, all_known, sole_in}
use Rattle.hc_plan.specs.declared.shape.Shape.{Shape}
use Rattle.hc_plan.specs.declared.shape.Shape.TheVariants.{Known, Open}
use Rattle.hc_plan.specs.declared.shape.Shape.TheVariants as shape

abbrev pub shape_by : Option (List ℕ) → Option Sole → Shape
shape_by (Some own) sole = Known own
shape_by None (Some sole) = shape.Sole sole
shape_by None None = Open

-- Of parts as they are read now.
abbrev pub shape_of : List Part → Shape
shape_of now = shape_by (all_known now) (sole_in now)

-- Two shapes one after the other: two parts that aren't known leave it open.
abbrev pub joined : Shape → Shape → Shape
joined (Known text) (Known more) = Known (text ++ more)
joined (Known text) (shape.Sole sole) = shape.Sole (record sole { before = text ++ sole.before })
joined (Known text) Open = Open
joined (shape.Sole sole) (Known more) = shape.Sole (record sole { after = sole.after ++ more })
joined (shape.Sole sole) (shape.Sole other) = Open
joined (shape.Sole sole) Open = Open
joined Open other = Open
