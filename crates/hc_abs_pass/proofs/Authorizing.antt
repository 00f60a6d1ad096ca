-- What the answers at the leaves come to is the value of the tree.
use Rattle.hc_abs_pass.proofs.Common.{◌≡◌, ◌∙◌, List, [], ◌∷◌, ◌++◌, map, Bool, true, false}
use Rattle.hc_abs_pass.proofs.Common.{◌||◌, refl, sym, ap, ap₂, subst, append-nil, ℕ, Some, None, plan_run}
use Rattle.std.specs.List.{list_any}
use Rattle.hc_addr.specs.Networks.{holds_in}
use Rattle.hc_addr.specs.declared.addr.Addr.{Addr}
use Rattle.hc_addr.specs.declared.net.Net.{Net}
use Rattle.hc_authz.specs.Values.{all_value, any_value, is_denied, is_granted, is_met, level_value, line_value}
use Rattle.hc_authz.specs.Values.{none_value}
use Rattle.hc_authz.specs.Values.{some_denied, some_granted, value}
use Rattle.hc_authz.specs.Values.{of_members as value_of_members}
use Rattle.hc_authz.specs.declared.tree.Tri.{Tri}
use Rattle.hc_model.specs.declared.authorization.Need.{Need}
use Rattle.hc_model.specs.declared.authorization.ReqTree.{ReqTree, fold-roll-ReqTree, ind-ReqTree, map-ReqTree}
use Rattle.hc_model.specs.declared.authorization.ReqTree.{roll-ReqTree}
use Rattle.hc_model.specs.declared.authorization.ReqTree.TheOpen.{ReqTree-F}
use Rattle.hc_model.specs.declared.request.Caller.{Caller}
use Rattle.hc_model.specs.declared.request.Request.{Request}
use Rattle.hc_plan.specs.Running.{answers}
use Rattle.hc_serve.specs.Passing.{lets_in, said}
use Rattle.hc_abs_rw.specs.Frames.{common}
use Rattle.hc_abs_pass.specs.Authorizing.{AdmittedAgrees, admitted_plan, is_let_in}
use Rattle.hc_authz.specs.declared.tree.Tri.TheVariants as tri
use Rattle.hc_model.specs.declared.authorization.Need.TheVariants as need
use Rattle.hc_abs_pass.specs.Authorizing.{Asked, Leaf, asked_by, asked_of, in_net, leaves_of, level_asked, line_answer, line_asked}
use Rattle.hc_abs_pass.specs.Authorizing.{need_leaves, some_first}
use Rattle.hc_abs_pass.specs.Authorizing.{of_members}
use Rattle.hc_abs_pass.specs.Authorizing.{over_members}

or_none : (one : Bool) → (one || false) ≡ one
or_none true = refl
or_none false = refl

or_assoc : (one two three : Bool) → ((one || two) || three) ≡ (one || (two || three))
or_assoc true two three = refl
or_assoc false two three = refl

module _ (request : Request) (client : Addr) (method : List ℕ) (caller : Caller)
    (same : (need : Need) → is_met (asked_by request client method) need ≡ is_met caller.request need) where
  abbrev told : List Leaf → List Bool
  told leaves = answers leaves client method

  told_both : (one other : List Leaf) (rest : List Bool)
      → told (one ++ other) ++ rest ≡ told one ++ (told other ++ rest)
  told_both [] other rest = refl
  told_both (leaf ∷ one) other rest = ap (λ later. leaf client method ∷ later) (told_both one other rest)

  -- The answers are read as the tree's value, and the rest is left.
  abbrev pub Reads : ReqTree → Type 0
  Reads tree = (rest : List Bool)
      → (asked_of request tree).value (told (asked_of request tree).leaves ++ rest) ≡ (value caller tree, rest)

  abbrev Members : Type 0
  Members = List ((tree : ReqTree) × Reads tree)

  abbrev trees : Members → List ReqTree
  trees members = map (λ member. member.0) members

  abbrev asked_all : List ReqTree → List Asked
  asked_all trees = map (asked_of request) trees

  abbrev values : List ReqTree → List Tri
  values trees = map (value caller) trees

  over_all : (container : Bool → Bool → Tri) (members : Members) (granted denied : Bool) (rest : List Bool)
      → over_members container (asked_all (trees members)) granted denied
      (told (leaves_of (asked_all (trees members))) ++ rest)
      ≡ (
        container (granted || some_granted (values (trees members))) (denied || some_denied (values (trees members))),
        rest,
      )
  over_all container [] granted denied rest =
      ap₂ (λ granted denied. (container granted denied, rest)) (sym (or_none granted)) (sym (or_none denied))
  over_all container (member ∷ members) granted denied rest =
      let asked = asked_of request member.0 in
      let more = asked_all (trees members) in
      let own = value caller member.0 in
      ap (λ answers. over_members container (asked ∷ more) granted denied answers)
      (told_both asked.leaves (leaves_of more) rest)
      ∙ ap (λ read. over_members container more (granted || is_granted read.0) (denied || is_denied read.0) read.1)
      (member.1 (told (leaves_of more) ++ rest))
      ∙ over_all container members (granted || is_granted own) (denied || is_denied own) rest
      ∙ ap₂ (λ granted denied. (container granted denied, rest))
      (or_assoc granted (is_granted own) (some_granted (values (trees members))))
      (or_assoc denied (is_denied own) (some_denied (values (trees members))))

  abbrev ReadsLevel : ReqTree-F ReqTree → Type 0
  ReadsLevel level = Reads (roll-ReqTree level)

  led : (level : ReqTree-F ReqTree) (asked : Asked) (own : Tri)
      → asked_of request (roll-ReqTree level) ≡ asked → value caller (roll-ReqTree level) ≡ own
      → ((rest : List Bool) → asked.value (told asked.leaves ++ rest) ≡ (own, rest)) → ReadsLevel level
  led level asked own is_asked is_own reads rest =
      ap (λ (asked : Asked). asked.value (told asked.leaves ++ rest)) is_asked ∙ reads rest
      ∙ ap (λ own. (own, rest)) (sym is_own)

  members_read : (level : ReqTree-F ReqTree) (container : Bool → Bool → Tri) (members : Members)
      → asked_of request (roll-ReqTree level) ≡ of_members container (asked_all (trees members))
      → value caller (roll-ReqTree level) ≡ value_of_members container (values (trees members)) → ReadsLevel level
  members_read level container members is_asked is_own =
      led level (of_members container (asked_all (trees members)))
      (value_of_members container (values (trees members))) is_asked is_own
      (over_all container members false false)

  first_read : (leaves : List Leaf) (rest : List Bool)
      → some_first leaves (told leaves ++ rest) ≡ (list_any (λ is. is) (told leaves), rest)
  first_read [] rest = refl
  first_read (leaf ∷ leaves) rest =
      ap (λ (read : Bool × List Bool). (leaf client method || read.0, read.1)) (first_read leaves rest)

  nets_told : (nets : List Net)
      → list_any (λ is. is) (told (map in_net nets)) ≡ list_any (λ net. holds_in net client) nets
  nets_told [] = refl
  nets_told (net ∷ nets) = ap (λ rest. holds_in net client || rest) (nets_told nets)

  need_told : (need : Need)
      → list_any (λ is. is) (told (need_leaves request need)) ≡ is_met (asked_by request client method) need
  need_told need.Granted = refl
  need_told need.Denied = refl
  need_told (need.Ip nets) = nets_told nets
  need_told (need.Method names) = or_none (is_met (asked_by request client method) (need.Method names))
  need_told need.Local = or_none (is_met (asked_by request client method) need.Local)

  leaf_reads : (level : ReqTree-F ReqTree) (negated : Bool) (need : Need)
      → asked_of request (roll-ReqTree level) ≡ line_asked request negated need
      → value caller (roll-ReqTree level) ≡ line_value negated (is_met caller.request need) → ReadsLevel level
  leaf_reads level negated need is_asked is_own =
      led level (line_asked request negated need) (line_value negated (is_met caller.request need)) is_asked is_own
      (λ rest. ap (line_answer negated) (first_read (need_leaves request need) rest)
      ∙ ap (λ is. (line_value negated is, rest)) (need_told need ∙ same need))

  abbrev read_tree : (member : (tree : ReqTree) × Reads tree) → ReqTree
  read_tree member = member.0

  by_level : (members : ReqTree-F ((tree : ReqTree) × Reads tree))
      → ReadsLevel (map-ReqTree ((tree : ReqTree) × Reads tree) ReqTree read_tree members)
  by_level (ReqTree-F.Leaf place negated need) =
      let level = ReqTree-F.Leaf place negated need in
      leaf_reads level negated need (fold-roll-ReqTree Asked (level_asked request) level)
      (fold-roll-ReqTree Tri (level_value caller) level)
  by_level (ReqTree-F.All members) =
      let level = ReqTree-F.All (trees members) in
      members_read level all_value members (fold-roll-ReqTree Asked (level_asked request) level)
      (fold-roll-ReqTree Tri (level_value caller) level)
  by_level (ReqTree-F.AnyOf members) =
      let level = ReqTree-F.AnyOf (trees members) in
      members_read level any_value members (fold-roll-ReqTree Asked (level_asked request) level)
      (fold-roll-ReqTree Tri (level_value caller) level)
  by_level (ReqTree-F.NoneOf members) =
      let level = ReqTree-F.NoneOf (trees members) in
      members_read level none_value members (fold-roll-ReqTree Asked (level_asked request) level)
      (fold-roll-ReqTree Tri (level_value caller) level)

  pub reads : (tree : ReqTree) → Reads tree
  reads = ind-ReqTree Reads (λ level members is. subst ReadsLevel is (by_level members))

-- ---- the plan

same_need : (caller : Caller) (need : Need)
    → is_met (asked_by (common caller).request caller.request.client caller.request.method) need
    ≡ is_met caller.request need
same_need caller need.Granted = refl
same_need caller need.Denied = refl
same_need caller (need.Ip nets) = refl
same_need caller (need.Method names) = refl
same_need caller need.Local = refl

let_in : (own : Tri) → is_granted own ≡ lets_in (said (Some own))
let_in tri.Granted = refl
let_in tri.Denied = refl
let_in tri.Neutral = refl

pub admitted_agrees : (A : Type 0) → AdmittedAgrees A
unfolding plan_run admitted_plan
admitted_agrees A caller None plan state client method = refl
admitted_agrees A caller (Some tree) plan state client method =
    let asked = asked_of (common caller).request tree in
    let all = answers asked.leaves caller.request.client caller.request.method in
    ap₂ (λ client method. plan_run (plan (is_let_in asked (answers asked.leaves client method))) state) client method
    ∙ ap (λ is. plan_run (plan is) state)
    (ap (is_let_in asked) (sym (append-nil all))
    ∙ ap (λ read. is_granted read.0)
    (reads (common caller).request caller.request.client caller.request.method caller (same_need caller) tree [])
    ∙ let_in (value caller tree))
