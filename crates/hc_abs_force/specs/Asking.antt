-- What a section asks of a request where the section around it applies.
-- Apache manual, "Configuration Sections"; core: DirectoryMatch, Files, FilesMatch, If, Location, LocationMatch.
use Rattle.std.specs.Prelude.{List, map, Bool, true, false}
use Rattle.std.specs.Borrow.{Bor}
use Rattle.hc_dfa.specs.Texts.{TextSet}
use Rattle.hc_merge.specs.Reaching.{is_at, is_component_found, is_found}
use Rattle.hc_model.specs.declared.expression.Expr.{Expr}
use Rattle.hc_model.specs.declared.section.Reach.{Reach}
use Rattle.hc_model.specs.declared.section.Reach.TheVariants.{Dir, DirSearch, Files, Location, LocationGlob}
use Rattle.hc_model.specs.declared.section.Reach.TheVariants.{LocationSearch, Otherwise, When}
use Rattle.hc_plan.specs.Plan.{Plan, put_down}
use Rattle.hc_plan.specs.Slots.{Slot}
use Rattle.hc_abs_pass.specs.Sections.{of_slot}
use Rattle.hc_abs_pass.specs.Views.{Scene, ways_of}

-- Nothing: it doesn't apply; whether the text of a slot is in a set; whether an expression holds.
pub data Question : Type 0 where
  never : Question
  in_slot : Slot → TextSet → Question
  holding : Expr → Question

abbrev pub question_of : Reach → Question
question_of (Dir pattern) = never
question_of (DirSearch pattern) = in_slot Slot.Name (is_found pattern)
question_of (Files pattern) = in_slot Slot.Name (is_component_found pattern)
question_of (Location path) = in_slot Slot.Path (is_at path)
question_of (LocationGlob pattern) = in_slot Slot.Path (is_found pattern)
question_of (LocationSearch pattern) = in_slot Slot.Path (is_found pattern)
question_of (When expr) = holding expr
question_of (Otherwise expr) = holding expr

-- A section that merges nothing is not asked.
abbrev pub question_where : Bool → Reach → Question
question_where true reach = question_of reach
question_where false reach = never

abbrev pub question_plan : {A : Type 0} → Scene → Question → (Bool → Plan A) → Plan A
question_plan scene never plan = put_down (plan false)
question_plan scene (in_slot slot set) plan = of_slot slot set plan
question_plan scene (holding expr) plan = ways_of scene expr false plan

-- ---- in code

abbrev pub exprs : List (Bor Expr) → List Expr
exprs chain = map (λ one. one.now) chain
