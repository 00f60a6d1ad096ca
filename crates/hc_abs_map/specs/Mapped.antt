-- The branches of the way from a URL path to a file name, as code has them.
use Rattle.std.specs.Prelude.{◌≡◌, List, Bool, Option, None, Some, option_map}
use Rattle.hc_addr.specs.declared.addr.Addr.{Addr}
use Rattle.hc_model.specs.declared.config.Server.{Server}
use Rattle.hc_model.specs.declared.mapping.Redirect.{Redirect}
use Rattle.hc_plan.specs.Branches.{Branch}
use Rattle.hc_plan.specs.Coded.{AreBranches}
use Rattle.hc_plan.specs.Plan.{done}
use Rattle.hc_plan.specs.States.{AbsState}
use Rattle.hc_plan.specs.declared.storing.Tied.{Tied}
use Rattle.hc_steps.specs.Step.{Shown}
use Rattle.hc_abs_pass.specs.Ends.{EndsAt, Left, left_of}
use Rattle.hc_abs_pass.specs.Mapping.{Placing, map_plan, over, redirects_plan}
use Rattle.hc_abs_pass.specs.Mapping.{named as in_hand}
use Rattle.hc_abs_pass.specs.Naming.{placed_plan, tidy_plan}
use Rattle.hc_abs_pass.specs.Walking.{HasName}
use Rattle.hc_abs_pass.specs.declared.walk.Named.{Named}
use Rattle.hc_abs_map.specs.declared.mapped.Mapped.{Mapped}
use Rattle.hc_abs_map.specs.declared.mapped.Mapped.TheVariants as mapped
use Rattle.hc_abs_map.specs.declared.redirects.Redirected.{Redirected}

-- The pass has ended, or the file name is in hand.
abbrev pub MappedFits : Option Addr → Mapped → Branch Placing → Type 0
MappedFits client (mapped.Over tied left) branch = EndsAt client tied branch.0 × (branch.1 ≡ over (left_of left))
MappedFits client (mapped.Name named aliased) branch = HasName named client branch.0 × (branch.1 ≡ in_hand aliased)

-- These are the branches of redirects, aliases and the document root.
abbrev pub AreMapped : List Server → Tied → List Mapped → Type 0
AreMapped servers before found = (client : Option Addr) (state : AbsState) → EndsAt client before state
    → AreBranches (MappedFits client) (map_plan servers) state found

-- Those of what a pass goes on with behind the rules of the server.
abbrev pub ArePlaced : Shown → List Server → Bool → Bool → Tied → List Mapped → Type 0
ArePlaced shown servers substituted passed before found = (client : Option Addr) (state : AbsState)
    → EndsAt client before state
    → AreBranches (MappedFits client) (placed_plan shown servers substituted passed) state found

-- Those of a name whose slashes are merged.
abbrev pub AreTidied : Named → Bool → List Mapped → Type 0
AreTidied named aliased found = (client : Option Addr) (state : AbsState) → HasName named client state
    → AreBranches (MappedFits client) (tidy_plan over (done (in_hand aliased))) state found

-- ---- redirects alone

-- The first redirect that takes the path, or none.
abbrev pub RedirectedFits : Option Addr → Redirected → Branch (Option Left) → Type 0
RedirectedFits client redirected branch = EndsAt client redirected.tied branch.0
    × (branch.1 ≡ option_map left_of redirected.left)

abbrev pub AreRedirected : List Redirect → Tied → List Redirected → Type 0
AreRedirected redirects before found = (client : Option Addr) (state : AbsState) → EndsAt client before state
    → AreBranches (RedirectedFits client) (redirects_plan Some redirects (done None)) state found
