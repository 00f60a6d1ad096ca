-- Of which requests it is asked who may pass.
use Rattle.std.specs.Prelude.{◌≡◌, ℕ, List, map, Bool, false, Option, None, Some}
use Rattle.hc_authz.specs.declared.tree.Tri.{Tri}
use Rattle.hc_addr.specs.declared.net.Net.{Net}
use Rattle.hc_dfa.specs.Automata.{Automaton, accepts}
use Rattle.hc_plan.specs.Hands.{set_in}
use Rattle.hc_model.specs.declared.authorization.ReqTree.{ReqTree}
use Rattle.hc_model.specs.declared.request.Request.{Request}
use Rattle.hc_abs_pass.specs.Authorizing.{Leaf, asked_of}
use Rattle.hc_abs_authz.specs.Leaves.{AreValues, MembersMay, Says, TreeMay}
use Rattle.hc_abs_authz.specs.Methods.{HasAnswer, is_one_of}
use Rattle.hc_abs_authz.specs.declared.leaves.Asking.{Asking}
use Rattle.hc_abs_authz.specs.declared.values.Values.{Values}

-- Whether there is a method.
abbrev pub IsKnown : Asking → Type 0
IsKnown asking = HasAnswer (accepts asking.methods.now) asking.some

abbrev pub says : Asking → Leaf → Bool → Type 0
says asking = Says asking.net.now (set_in asking.methods.now)

abbrev pub MethodSays : Asking → List (List ℕ) → Bool → Type 0
MethodSays asking names = says asking (λ client m. is_one_of names m)

-- What a tree may say.
abbrev pub TreeSays : Asking → ReqTree → Tri → Type 0
TreeSays asking tree = TreeMay (says asking) (asked_of asking.request.now tree)

-- What the members of a container may say together.
abbrev pub MembersSay : Asking → List ReqTree → (Bool → Bool → Tri) → Tri → Type 0
MembersSay asking trees table value =
    MembersMay (says asking) table (map (asked_of asking.request.now) trees) false false value

-- Without a tree nothing is said.
abbrev pub AreValuesAt : Net → Automaton → Request → Option ReqTree → Option Values → Type 0
AreValuesAt net methods request None found = found ≡ None
AreValuesAt net methods request (Some tree) found =
    (values : Values) × (found ≡ Some values)
    × AreValues (TreeMay (Says net (set_in methods)) (asked_of request tree)) values

abbrev pub AreValuesOf : Asking → Option ReqTree → Option Values → Type 0
AreValuesOf asking = AreValuesAt asking.net.now asking.methods.now asking.request.now
