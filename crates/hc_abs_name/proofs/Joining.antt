-- What follows the branches of a part of a pass, one after the other.
use Rattle.hc_abs_name.proofs.Common.{◌≡◌, ℕ, List, [], ◌∷◌, ◌++◌, Plan}
use Rattle.hc_plan.proofs.Coded.{next_added}
use Rattle.hc_plan.specs.Branches.{Branch}
use Rattle.hc_abs_left.specs.Segments.{SegmentFits}
use Rattle.hc_abs_left.specs.declared.ground.Ground.{Ground}
use Rattle.hc_abs_left.specs.declared.segment.Segment.{Segment}
use Rattle.hc_abs_pass.specs.Passing as plans
use Rattle.hc_abs_name.specs.Behind.{AreBehind, IsBehind, WithClients}

pub behind_added : {A X : Type 0} (ground : Ground) (First : X → Branch A → Type 0) (next : ℕ → A → Plan plans.Segment)
    (all : List X) (one : X) (found more after : List Segment) → AreBehind ground First next all found
    → after ≡ found ++ more → IsBehind ground First next one more
    → AreBehind ground First next (all ++ one ∷ []) after
behind_added ground First next all one found more after are added is levels listed =
    next_added (WithClients ground First) (SegmentFits ground.client ground.tests.now) (next levels) all one found after
    (are levels listed) (more, added, is levels listed)
