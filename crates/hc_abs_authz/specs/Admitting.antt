-- Who may pass over a set of requests, as code has it.
use Rattle.std.specs.Prelude.{◌≡◌, List, Bool, Option}
use Rattle.hc_addr.specs.declared.addr.Addr.{Addr}
use Rattle.hc_addr.specs.declared.net.Net.{Net}
use Rattle.hc_model.specs.declared.authorization.ReqTree.{ReqTree}
use Rattle.hc_model.specs.declared.request.Caller.{Caller}
use Rattle.hc_plan.specs.Branches.{Branch}
use Rattle.hc_plan.specs.Coded.{AreBranches}
use Rattle.hc_plan.specs.Plan.{done}
use Rattle.hc_plan.specs.States.{AbsState}
use Rattle.hc_plan.specs.declared.storing.Tied.{Tied}
pub use Rattle.hc_scope.specs.Clients.{clients_of, fits}
use Rattle.hc_abs_pass.specs.Authorizing.{admitted_plan}
use Rattle.hc_abs_pass.specs.Ends.{EndsAt}
use Rattle.hc_abs_authz.specs.declared.admitting.Admitted.{Admitted}

abbrev pub AdmittedFits : Option Addr → Admitted → Branch Bool → Type 0
AdmittedFits client admitted branch = EndsAt client admitted.tied branch.0 × (branch.1 ≡ admitted.is)

-- These are the branches of the question who may pass, where the clients are those of the network.
abbrev pub AreAdmitted : Caller → Net → Option ReqTree → Tied → List Admitted → Type 0
AreAdmitted caller net require before found = (client : Option Addr) (state : AbsState) → EndsAt client before state
    → state.clients ≡ clients_of net
    → AreBranches (AdmittedFits client) (admitted_plan caller require (λ is. done is)) state found
