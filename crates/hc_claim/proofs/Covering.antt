-- Each request of a scope has a leaf in its tree, so that one that breaks the claim has a bad one.
use Rattle.hc_claim.proofs.Common.{◌≡◌, ◌∙◌, inl, inr, ℕ, List, [], ◌∷◌, ◌&&◌, Bool, true}
use Rattle.hc_claim.proofs.Common.{false, refl, sym, ap, subst}
use Rattle.hc_claim.proofs.Common.{true≢false, Option, Some, None}
use Rattle.hc_claim.proofs.Common.outcome
use Rattle.std.proofs.Common.{ap₂}
use Rattle.std.proofs.lemmas.Bool.{and_parts, eqb-true, false≢true}
use Rattle.std.specs.Prelude.{◌==◌, ◌⊎◌, length, if◌then◌else◌}
use Rattle.hc_addr.specs.Printed.{printed}
use Rattle.hc_addr.specs.declared.addr.Addr.{Addr}
use Rattle.hc_addr.specs.declared.addr.Addr.TheVariants.{V4, V6}
use Rattle.hc_absolute.specs.Absolute.{AreAbsolute}
use Rattle.hc_broken.specs.Breaking.{breaks, is_broken}
use Rattle.hc_members.specs.Requests.{common_request, is_asked, reads_within, same_addr, same_scheme}
unfoldable use Rattle.hc_members.specs.Requests.{is_of_scope}
use Rattle.hc_model.specs.declared.event.Event.TheVariants as event
use Rattle.hc_model.specs.declared.config.Config.{Config}
use Rattle.hc_model.specs.declared.event.Decision.{Decision}
use Rattle.hc_model.specs.declared.outcome.Reason.TheVariants.{LongText}
use Rattle.hc_model.specs.declared.config.HostId.{HostId}
use Rattle.hc_model.specs.declared.config.Server.{Server}
use Rattle.hc_model.specs.declared.request.Request.{Request}
use Rattle.hc_model.specs.declared.request.Scheme.{Scheme}
use Rattle.hc_model.specs.declared.request.Scheme.TheVariants.{Http, Https}
use Rattle.hc_named.specs.declared.names.Names.{Names}
use Rattle.hc_plan.proofs.Common.{and_left}
use Rattle.hc_plan.proofs.Made.{is_text}
use Rattle.hc_plan.proofs.Slots.{same_bytes}
use Rattle.hc_plan.specs.Cover.{Among, Covers}
use Rattle.hc_scope.specs.Clients.{clients_of}
use Rattle.hc_scope.specs.declared.claim.Claim.{Claim}
use Rattle.hc_scope.specs.declared.claim.Scope.{Scope}
use Rattle.hc_serve.proofs.Segments.{passes_are_segments}
use Rattle.hc_serve.specs.Passing.{followed_by}
unfoldable use Rattle.hc_serve.specs.Request.{first_pass, host_of, host_told, opened, passes_at, passes_of, way}
use Rattle.hc_serve.specs.Needs.{needs_of}
use Rattle.hc_serve.specs.Request.{asked_of, outcome_of, passes, tree_of, whole_run}
use Rattle.hc_serve.specs.Segments.{Cut, at_pass, segments}
use Rattle.hc_serve.specs.Site.{Site, most_passes, or_address, server_name, site_at}
use Rattle.hc_serve.specs.declared.stage.Ended.{Ended}
use Rattle.hc_serve.specs.declared.stage.Restarted.{Restarted}
use Rattle.hc_steps.proofs.Running.{in_turn}
use Rattle.hc_steps.specs.Run.{Run, Way, goes_on, is_over, on_way, saying}
unfoldable use Rattle.hc_steps.specs.Run.{run}
use Rattle.hc_steps.specs.Shown.{shown_by}
use Rattle.hc_steps.specs.Step.{Shown, leaves as left_off}
unfoldable use Rattle.hc_steps.specs.Step.{◌>>=◌}
use Rattle.hc_target.specs.Targets.{read}
use Rattle.hc_target.specs.declared.target.TargetRead.{TargetRead}
use Rattle.hc_target.specs.declared.target.TargetRead.TheVariants.{Bad400, Miss404, Path, PathByte}
use Rattle.hc_vhost.specs.Servers.{server_at}
use Rattle.hc_abs_force.proofs.Nesting.{all_nested}
use Rattle.hc_abs_force.proofs.Settling.{settles}
use Rattle.hc_abs_force.specs.Merging.{merges}
use Rattle.hc_abs_pass.proofs.Restarting.{none_once}
use Rattle.hc_abs_pass.specs.Ends.{MeetsPass}
use Rattle.hc_abs_pass.specs.Walks.{IsListed}
use Rattle.hc_abs_rw.specs.Standing.{decisions_in}
unfoldable use Rattle.hc_abs_segments.proofs.Common.{ending}
use Rattle.hc_abs_segments.proofs.Passes.{none_is_left}
use Rattle.hc_abs_segments.specs.Agreeing.{IsGround}
use Rattle.hc_abs_segments.specs.Counting.{pass_at}
use Rattle.hc_abs_start.proofs.Beginning.{each_begins}
use Rattle.hc_abs_start.proofs.Members.{facts_of}
use Rattle.hc_abs_start.specs.Starts.{first_of, first_set, first_state}
use Rattle.hc_abs_restart.specs.Restarted.{is_among}
use Rattle.hc_abs_tree.proofs.Leaves.{each_has_leaf}
use Rattle.hc_abs_tree.specs.Leaves.{HasLeaf, IsLeafOf, begun_at, way_from}
use Rattle.hc_abs_tree.specs.Trees.{AreLeaves, Leaf, common_site}
use Rattle.hc_claim.specs.Asking.{Asked, AreUnder, HasEmptySlot, known_before, soil_of}
use Rattle.hc_claim.specs.Bad.{AreBad, IsBad}
use Rattle.hc_claim.proofs.Breaking.{by_finish}

-- ---- what the requests of a scope have in common

schemes_same : (one other : Scheme) → same_scheme one other ≡ true → one ≡ other
schemes_same Http Http is = refl
schemes_same Https Https is = refl
schemes_same Http Https is = absurd (false≢true is)
schemes_same Https Http is = absurd (false≢true is)

addrs_same : (one other : Addr) → same_addr one other ≡ true → one ≡ other
addrs_same (V4 one) (V4 other) is = ap V4 (eqb-true one other is)
addrs_same (V6 one) (V6 other) is = ap V6 (eqb-true one other is)
addrs_same (V4 one) (V6 other) is = absurd (false≢true is)
addrs_same (V6 one) (V4 other) is = absurd (false≢true is)

pub record Same (one other : Request) : Type 0 where
  pub scheme : one.scheme ≡ other.scheme
  pub server : one.server ≡ other.server
  pub port : one.port ≡ other.port
  pub host : one.host ≡ other.host

pub asked_same : (scope : Scope) (request : Request) → is_of_scope scope request ≡ true
    → Same (common_request scope) request
unfolding is_of_scope
asked_same scope request is =
    let all = and_parts (is_asked scope request && clients_of scope.client request.client && _ && _) _ is in
    let three = and_parts (is_asked scope request && clients_of scope.client request.client && _) _ all.0 in
    let two = and_parts (is_asked scope request && clients_of scope.client request.client) _ three.0 in
    let one = and_parts (is_asked scope request) _ two.0 in
    let host = and_parts (same_scheme scope.scheme request.scheme && same_addr scope.server request.server && _) _ one.0 in
    let port = and_parts (same_scheme scope.scheme request.scheme && same_addr scope.server request.server) _ host.0 in
    let server = and_parts (same_scheme scope.scheme request.scheme) _ port.0 in
    record {
      scheme = schemes_same scope.scheme request.scheme server.0;
      server = addrs_same scope.server request.server server.1;
      port = eqb-true scope.port request.port port.1;
      host = same_bytes scope.host request.host host.1;
    }

address_same : (name : Option (List ℕ)) (one other : Request) → Same one other
    → or_address name one ≡ or_address name other
address_same None one other same = ap printed same.server
address_same (Some name) one other same = ap (λ address. if length name == 0 then printed address else name) same.server

name_same : (server : Server) (one other : Request) → Same one other → server_name server one ≡ server_name server other
name_same server one other same =
    ap₂ (λ host address. if length host == 0 then address else host) same.host
    (address_same server.name one other same)

abbrev site_with : Config → HostId → Scheme → Addr → ℕ → List ℕ → List ℕ → Site
site_with config host scheme server port name called = record {
  config = config;
  host = host;
  caller = record {
    request = record {
      method = [];
      scheme = scheme;
      server = server;
      port = port;
      host = name;
      client = V4 0;
      headers = [];
      target = [];
    };
    name = called;
  };
}

abbrev pub common_at : Config → Request → Site
common_at config request = common_site (site_at config (asked_of config request) request)

pub sites_same : (config : Config) (one other : Request) → Same one other → common_at config one ≡ common_at config other
sites_same config one other same =
    let scheme = same.scheme in
    let server = same.server in
    let port = same.port in
    let name = same.host in
    let host : asked_of config one ≡ asked_of config other = cc in
    let called : server_name (server_at config (asked_of config one)) one
    ≡ server_name (server_at config (asked_of config other)) other =
    ap (λ host. server_name (server_at config host) one) host
    ∙ name_same (server_at config (asked_of config other)) one other same in cc

-- ---- the run of a request

pub target_read : (scope : Scope) (to : TargetRead) → reads_within scope to ≡ true
    → (path : List ℕ) × (query : List ℕ) × (to ≡ Path path query)
target_read scope (Path path query) is = (path, query, refl)
target_read scope Bad400 is = absurd (false≢true is)
target_read scope Miss404 is = absurd (false≢true is)
target_read scope PathByte is = absurd (false≢true is)

-- What is over stays so with what would follow.
over_before : {E A B : Type 0} (first : Run E A) (way : Way E A) (next : A → Run E B) (end : E) → way ≡ is_over end
    → on_way first way next ≡ record { events = first.events; reads = first.reads; way = is_over end }
over_before first way next end is = ap (λ way. on_way first way next) is

module _ (asked : Asked) (request : Request) (is : is_of_scope asked.scope request ≡ true) (path query : List ℕ)
    (is_read : read request.target ≡ Path path query) where
  abbrev pub shown : Shown
  shown = shown_by asked.world

  abbrev pub site : Site
  site = site_at asked.config (asked_of asked.config request) request

  abbrev pub begun : Restarted
  begun = followed_by None (first_of path query)

  abbrev pub passed : Run Ended Restarted
  passed = run (passes (most_passes site.config site.host) site begun) shown

  pub whole_is : whole_run asked.world asked.config request
      ≡ saying (event.Host (server_at asked.config site.host).place) passed
  unfolding way opened host_of host_told passes_of passes_at first_pass run ◌>>=◌ ending
  whole_is = rw is_read refl

  pub ground : AreAbsolute asked.config → (levels : ℕ) → IsListed levels shown → IsGround site shown levels merges
  ground absolute levels listed = record {
    listed = listed;
    rooted = absolute.rooted site.host;
    aliased = absolute.aliased site.host;
    settles = settles;
    nested = all_nested asked.config site.host;
  }

  -- Where it stands before its first pass.
  pub record Begins (names : Names) : Type 0 where
    pub meets : MeetsPass site (first_of path query) (first_state site (first_of path query))
    pub covers : Covers (known_before asked names) (first_state site (first_of path query))
    pub filled : HasEmptySlot (known_before asked names) → ⊥

  module _ (names : Names) where
    abbrev begins : MeetsPass site (first_of path query) (first_state site (first_of path query))
        × Covers (known_before asked names) (first_state site (first_of path query))
    begins = each_begins asked.config site.host asked.scope request path query names.variables names.headers is is_read

    filled : HasEmptySlot (known_before asked names) → ⊥
    filled none =
        let held = begins.1.slots none.0 in
        let own = (first_state site (first_of path query)).slots none.0 in
        let set = first_set asked.scope (is_among names.variables) (is_among names.headers) none.0 in
        true≢false (sym held ∙ none.1 own (is_text own (and_left _ (set own) held)))

    -- What is known at the start covers it, and each slot has a text.
    pub begins_so : Begins names
    begins_so = record { meets = begins.0; covers = begins.1; filled = filled }

  -- As so many segments.
  abbrev pub way_of : ℕ → Run Ended Cut
  way_of count = way_from site shown count (begun_at (first_of path query) None)

  pub in_segments : (ended : Ended) → passed.way ≡ is_over ended
      → (count : ℕ) × (way_of count ≡ record { events = passed.events; reads = passed.reads; way = is_over ended })
  in_segments ended over =
      let count = passes_are_segments site shown (most_passes site.config site.host) begun in (
        count.0,
        sym count.1
            ∙ in_turn (passes (most_passes site.config site.host) site begun) (λ left. left_off (at_pass left)) shown
            ∙ over_before passed passed.way _ ended over,
      )

-- ---- a claim that the request's own leaf doesn't break

-- How a run ends that isn't left over.
abbrev broken_by : (asked : Asked) (request : Request) (way : Way Ended Restarted) → Bool
broken_by asked request way =
    breaks asked.claim (outcome_of way) (whole_run asked.world asked.config request).events (needs_of (tree_of way))

-- The request's own leaf is not bad, unless a text is too long.
abbrev pub HasGood : Claim → Site → Shown → Cut → Ended → List Decision → Type 0
HasGood claim site shown from ended decisions =
    (ended.outcome ≡ outcome.Outside LongText)
    ⊎ ((leaf : Leaf) × (IsBad claim leaf → ⊥) × IsLeafOf site shown from leaf ended decisions)

-- It is not so that it has none, whatever number of segments it takes.
abbrev pub IsGood : (asked : Asked) (request : Request) → is_of_scope asked.scope request ≡ true → (path query : List ℕ)
    → read request.target ≡ Path path query → Type 0
IsGood asked request is path query is_read =
    (count : ℕ) (ended : Ended) → (way_of asked request is path query is_read count).way ≡ is_over ended
    → (HasGood asked.claim (site asked request is path query is_read) (shown_by asked.world)
    (begun_at (first_of path query) None) ended (decisions_in (way_of asked request is path query is_read count).events)
    → ⊥) → ⊥

module _ (asked : Asked) (request : Request) (is : is_of_scope asked.scope request ≡ true) (path query : List ℕ)
    (is_read : read request.target ≡ Path path query) (good : IsGood asked request is path query is_read) where
  abbrev whole : Run Ended Restarted
  whole = whole_run asked.world asked.config request

  same : whole ≡ saying (event.Host (server_at asked.config (asked_of asked.config request)).place)
      (passed asked request is path query is_read)
  same = whole_is asked request is path query is_read

  by_leaf : (ended : Ended) → breaks asked.claim ended.outcome whole.events (needs_of ended.require) ≡ true
      → HasGood asked.claim (site asked request is path query is_read) (shown_by asked.world)
      (begun_at (first_of path query) None) ended
      (decisions_in (passed asked request is path query is_read).events) → ⊥
  by_leaf ended broken (inl long) =
      true≢false (sym broken ∙ ap (λ own. breaks asked.claim own whole.events (needs_of ended.require)) long)
  by_leaf ended broken (inr own) =
      own.1
      (by_finish own.0 whole.events
      ((own.2).decided ∙ sym (ap (λ (run : Run Ended Restarted). decisions_in run.events) same))
      (site asked request is path query is_read) (pass_at (own.2).last) (own.2).state (own.2).covers asked.claim
      ended.outcome (own.0).finish refl (own.2).finish
      (ap (λ require. breaks asked.claim ended.outcome whole.events (needs_of require)) (own.2).require ∙ broken))

  over_is : (ended : Ended) → whole.way ≡ is_over ended
      → breaks asked.claim ended.outcome whole.events (needs_of ended.require) ≡ true → ⊥
  over_is ended over broken =
      let all = in_segments asked request is path query is_read ended
      (sym (ap (λ (run : Run Ended Restarted). run.way) same) ∙ over) in
      good all.0 ended (ap (λ (run : Run Ended Cut). run.way) all.1)
      (λ own. by_leaf ended broken
      (subst (HasGood asked.claim (site asked request is path query is_read) (shown_by asked.world)
      (begun_at (first_of path query) None) ended) (ap (λ (run : Run Ended Cut). decisions_in run.events) all.1) own))

  unbroken : (way : Way Ended Restarted) → whole.way ≡ way → (told : Bool) → broken_by asked request way ≡ told
      → told ≡ false
  unbroken (goes_on left) over told is_told = absurd (none_is_left asked.config request (shown_by asked.world) left over)
  unbroken (is_over ended) over false is_told = refl
  unbroken (is_over ended) over true is_told = absurd (over_is ended over is_told)

-- A request with a good leaf breaks no claim.
pub good_holds : (asked : Asked) (request : Request) (is : is_of_scope asked.scope request ≡ true)
    → ((path query : List ℕ) (is_read : read request.target ≡ Path path query)
    → IsGood asked request is path query is_read)
    → is_broken asked.world asked.config asked.claim request ≡ false
good_holds asked request is good =
    let to = target_read asked.scope (read request.target) (facts_of asked.scope request is).within in
    unbroken asked request is to.0 to.1 to.2 (good to.0 to.1 to.2)
    (whole_run asked.world asked.config request).way refl
    (is_broken asked.world asked.config asked.claim request) refl

-- ---- a claim that may be broken at no leaf

none_bad : (claim : Claim) (leaves : List Leaf) → AreBad claim leaves [] → (leaf : Leaf) → Among leaf leaves
    → IsBad claim leaf → ⊥
none_bad claim [] none leaf among bad = absurd among
none_bad claim (own ∷ leaves) (inl none) leaf among bad = let e = none.2 in cc
none_bad claim (own ∷ leaves) (inr rest) leaf (inl same) bad = rest.0 (subst (IsBad claim) same bad)
none_bad claim (own ∷ leaves) (inr rest) leaf (inr among) bad = none_bad claim leaves rest.1 leaf among bad

module _ (asked : Asked) (absolute : AreAbsolute asked.config) (levels : ℕ) (listed : IsListed levels (shown_by asked.world))
    (names : Names) (leaves : List Leaf) (none : AreBad asked.claim leaves []) (request : Request)
    (is : is_of_scope asked.scope request ≡ true) (path query : List ℕ)
    (is_read : read request.target ≡ Path path query) where
  abbrev there : Begins asked request is path query is_read names
  there = begins_so asked request is path query is_read names

  of_leaf : (ended : Ended) (decisions : List Decision) → HasLeaf (site asked request is path query is_read)
      (shown_by asked.world) (begun_at (first_of path query) None) leaves ended decisions
      → HasGood asked.claim (site asked request is path query is_read) (shown_by asked.world)
      (begun_at (first_of path query) None) ended decisions
  of_leaf ended decisions (inl long) = inl long
  of_leaf ended decisions (inr own) = inr (own.0, none_bad asked.claim leaves none own.0 own.1, own.2)

  all_good : AreUnder AreLeaves (soil_of asked levels names) (known_before asked names) leaves
      → IsGood asked request is path query is_read
  all_good (inl empty) count ended over = absurd (there.filled empty.0)
  all_good (inr tree) count ended over = λ bad. bad
      (of_leaf ended (decisions_in (way_of asked request is path query is_read count).events)
      (each_has_leaf (soil_of asked levels names) (site asked request is path query is_read) (first_of path query) None
      (known_before asked names) (first_state (site asked request is path query is_read) (first_of path query)) leaves
      count ended (sites_same asked.config (common_request asked.scope) request (asked_same asked.scope request is))
      (ground asked request is path query is_read absolute levels listed) there.meets none_once there.covers tree.1
      over))

pub proved_holds : (asked : Asked) → AreAbsolute asked.config → (levels : ℕ) → IsListed levels (shown_by asked.world)
    → (names : Names) (leaves : List Leaf)
    → AreUnder AreLeaves (soil_of asked levels names) (known_before asked names) leaves
    → AreBad asked.claim leaves [] → (request : Request) → is_of_scope asked.scope request ≡ true
    → is_broken asked.world asked.config asked.claim request ≡ false
proved_holds asked absolute levels listed names leaves tree none request is =
    good_holds asked request is (λ path query is_read.
    all_good asked absolute levels listed names leaves none request is path query is_read tree)
