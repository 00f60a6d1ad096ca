-- The first redirect that takes the path, as a test of one after another.
use Rattle.hc_abs_pass.proofs.Common.{◌≡◌, ◌∙◌, ℕ, List, [], ◌∷◌, ◌++◌, length, drop, Bool}
use Rattle.hc_abs_pass.proofs.Common.{true, false, if◌then◌else◌, Option, Some, None, refl, sym, ap, ap₂}
use Rattle.hc_abs_pass.proofs.Common.{subst, append_assoc, append-nil, State, PlanRun, Plan, plan_run, item_text}
use Rattle.hc_abs_pass.proofs.Common.{text_of, in_hand, option_map, pick, Slot, Item}
use Rattle.hc_alias.specs.Filling.{filling_with}
use Rattle.hc_alias.specs.Locations.{location}
use Rattle.hc_alias.specs.Mapping.{aliased, away_by, mapped_among, maps_of, named_by, or_named, redirect_spot}
use Rattle.hc_alias.specs.Mapping.{redirects_of}
use Rattle.hc_alias.specs.Mapping.{root_of, under_root, unless_away}
use Rattle.hc_alias.specs.declared.mapping.Mapped.{Mapped}
use Rattle.hc_alias.specs.declared.mapping.Mapped.TheVariants as mapped
use Rattle.hc_model.specs.declared.config.Server.{Server}
use Rattle.hc_model.specs.declared.mapping.Alias.{Alias}
use Rattle.hc_alias.specs.Tests.{Found, behind, found_by, first_taking, is_below, no_groups, or_later, searched}
use Rattle.hc_model.specs.declared.mapping.PathTest.{PathTest}
use Rattle.hc_model.specs.declared.mapping.PathTest.TheVariants.{Prefix, Search}
use Rattle.hc_model.specs.declared.mapping.Redirect.{Redirect}
use Rattle.hc_model.specs.declared.outcome.Outcome.TheVariants as outcome
use Rattle.hc_model.specs.declared.request.Caller.{Caller}
use Rattle.hc_model.specs.declared.template.Piece.{Piece}
use Rattle.hc_model.specs.declared.template.Piece.TheVariants as piece
use Rattle.hc_pattern.specs.Pattern.{Pattern}
use Rattle.hc_plan.specs.Running.{ended, holding, with_groups}
use Rattle.hc_target.specs.Urls.{is_redirection}
use Rattle.hc_template.specs.Filled.{filled}
use Rattle.hc_ways.specs.Kept.{Held, first_match}
use Rattle.hc_abs_rw.specs.Templates.{groups, main}
use Rattle.hc_abs_pass.specs.Ends.{Left, sent, status}
use Rattle.hc_abs_pass.specs.Mapping.{Maps, Placing, Sends, alias_named, aliases_plan}
use Rattle.hc_abs_pass.specs.Mapping.{entries_plan, map_plan, over, redirects_plan, rest_items}
use Rattle.hc_abs_pass.specs.Mapping.{sent_away, taken, under_root_plan}
use Rattle.hc_abs_pass.specs.Mapping.{target_items}

-- What a test of an entry found is held.
abbrev Holds : PathTest → Found → State → Type 0
Holds (Prefix from) found s = (found.groups ≡ no_groups) × (found.rest ≡ drop (length from) (s.slots Slot.Path))
Holds (Search pattern) found s = ((at : ℕ) → pick s.given groups at ≡ found.groups at) × (found.rest ≡ [])

target_is : (from : PathTest) (found : Found) (s : State) → Holds from found s → (pieces : List Piece)
    → text_of s (target_items from pieces) ≡ filled (filling_with found.groups) pieces
target_is from found s holds [] = refl
target_is (Prefix from) found s holds (piece.Group number ∷ pieces) =
    ap₂ (λ (front rest : List ℕ). front ++ rest) (sym (ap (λ groups. groups number) holds.0))
    (target_is (Prefix from) found s holds pieces)
target_is (Search pattern) found s holds (piece.Group number ∷ pieces) =
    ap₂ (λ (front rest : List ℕ). front ++ rest) (holds.0 number) (target_is (Search pattern) found s holds pieces)
target_is from found s holds (piece.Bytes bytes ∷ pieces) =
    ap (λ rest. bytes ++ rest) (target_is from found s holds pieces)
target_is from found s holds (piece.CondGroup number ∷ pieces) = target_is from found s holds pieces
target_is from found s holds (piece.Var var ∷ pieces) = target_is from found s holds pieces
target_is from found s holds (piece.Lookup' name key keys fallback fallbacks ∷ pieces) =
    target_is from found s holds pieces

rest_is : (from : PathTest) (found : Found) (s : State) → Holds from found s
    → text_of s (rest_items from) ≡ found.rest
rest_is (Prefix from) found s holds = append-nil (drop (length from) (s.slots Slot.Path)) ∙ sym holds.1
rest_is (Search pattern) found s holds = sym holds.1

text_of_both : (s : State) (one other : List Item) → text_of s (one ++ other) ≡ text_of s one ++ text_of s other
text_of_both s [] other = refl
text_of_both s (item ∷ one) other =
    ap (λ rest. item_text s item ++ rest) (text_of_both s one other)
    ∙ sym (append_assoc (item_text s item) (text_of s one) (text_of s other))

-- The first entry that takes a path does take it.
takes : {E : Type 0} (from : E → PathTest) (path : List ℕ) (entries : List E) (taken : E × Found)
    → first_taking from entries path ≡ Some taken → found_by (from taken.0) path ≡ Some taken.1
takes from path [] taken is = absurd (let none = is in cc)
takes {E} from path (entry ∷ entries) taken is = by (found_by (from entry) path) refl (takes from path entries taken) is
  where
    by : (own : Option Found) → found_by (from entry) path ≡ own
        → (first_taking from entries path ≡ Some taken → found_by (from taken.0) path ≡ Some taken.1)
        → or_later entry own (first_taking from entries path) ≡ Some taken → found_by (from taken.0) path ≡ Some taken.1
    by (Some found) own_is more is =
        subst (λ (taken : E × Found). found_by (from taken.0) path ≡ Some taken.1) (inside (entry, found) taken is) own_is
      where
        inside : (one other : E × Found) → Some one ≡ Some other → one ≡ other
        inside one other same = let e = same in cc
    by None own_is more is = more is

module _ {A : Type 0} (give : Left → A) (caller : Caller) (path query : List ℕ) (redirect : Redirect) (found : Found)
    (taken_is : found_by redirect.from path ≡ Some found) where
  sends : (s : State) → s.slots Slot.Path ≡ path → s.slots Slot.Query ≡ query
      → Sends caller give (plan_run (sent_away give redirect) s) (away_by caller query (redirect, found))
  unfolding plan_run
  sends s meets asked = by (is_redirection redirect.status)
    where
      by : (is : Bool) → Sends caller give
          (ended (holding s groups (λ at. [])) (give (if is then sent redirect else status redirect.status)))
          (record {
            outcome = if is then outcome.Redirect redirect.status (location caller redirect found query)
                else outcome.Status redirect.status;
            from = redirect_spot redirect;
          })
      by true = (
        _,
        sent redirect,
        refl,
        (
          found,
          ap (found_by redirect.from) meets ∙ taken_is,
          ap (λ query. outcome.Redirect redirect.status (location caller redirect found query)) (sym asked),
        ),
      )
      by false = (_, status redirect.status, refl, refl)

-- ---- entries in order

module _ {A E : Type 0} (from : E → PathTest) (sending : E → Plan A) (path : List ℕ) where
  -- None takes the path, and what follows runs with another text in hand; or the first that does.
  abbrev pub Entered : Plan A → State → PlanRun A → Option (E × Found) → Type 0
  Entered plan s first None = (later : State) × (first ≡ plan_run plan later)
      × (later.slots ≡ s.slots) × (later.client ≡ s.client)
  Entered plan s first (Some taken) = (later : State) × (first ≡ plan_run (sending taken.0) later)
      × Holds (from taken.0) taken.1 later × (later.slots ≡ s.slots) × (later.client ≡ s.client)

  abbrev Goes : List E → Type 0
  Goes entries = (plan : Plan A) (s : State) → s.slots Slot.Path ≡ path
      → Entered plan s (plan_run (entries_plan from sending entries plan) s) (first_taking from entries path)

  module _ (entry : E) (entries : List E) (goes : Goes entries) (plan : Plan A) (s : State)
      (meets : s.slots Slot.Path ≡ path) where
    abbrev text : List ℕ
    text = s.slots Slot.Path ++ []

    same_text : text ≡ path
    same_text = append-nil (s.slots Slot.Path) ∙ meets

    abbrev step : Bool → Plan A
    step is = elim is [ true ↦ sending entry | false ↦ entries_plan from sending entries plan ]

    abbrev Ends : PlanRun A → Option Found → Type 0
    Ends first own = Entered plan s first (or_later entry own (first_taking from entries path))

    -- Where it doesn't take the path, the rest of the list follows.
    later_goes : Ends (plan_run (step false) (in_hand s main text)) None
    later_goes = by (first_taking from entries path) (goes plan (in_hand s main text) meets)
      where
        by : (first : Option (E × Found))
            → Entered plan (in_hand s main text) (plan_run (step false) (in_hand s main text)) first
            → Entered plan s (plan_run (step false) (in_hand s main text)) first
        by None is = is
        by (Some first) is = is

    prefix_goes : (front : List ℕ) → from entry ≡ Prefix front
        → Ends (plan_run (step (is_below front text)) (in_hand s main text)) (found_by (Prefix front) path)
    prefix_goes front is =
        subst (λ path. Ends (plan_run (step (is_below front text)) (in_hand s main text))
        (if is_below front path then Some (behind front path) else None)) same_text (by (is_below front text))
      where
        by : (takes : Bool) → Ends (plan_run (step takes) (in_hand s main text))
            (if takes then Some (behind front text) else None)
        by true = (
          in_hand s main text,
          refl,
          subst (λ own. Holds own (behind front text) (in_hand s main text)) (sym is)
              (refl, ap (drop (length front)) (append-nil (s.slots Slot.Path))),
          refl,
          refl,
        )
        by false = later_goes

    abbrev searched_run : Option Held → PlanRun A
    searched_run own = elim own [
      | Some held ↦ plan_run (step true) (with_groups (in_hand s main text) groups text held)
      | None ↦ plan_run (step false) (in_hand s main text)
    ]

    search_goes : (pattern : Pattern) → from entry ≡ Search pattern
        → Ends (searched_run (first_match text pattern)) (found_by (Search pattern) path)
    search_goes pattern is =
        subst (λ path. Ends (searched_run (first_match text pattern))
        (option_map (searched path) (first_match path pattern))) same_text (by (first_match text pattern))
      where
        by : (own : Option Held) → Ends (searched_run own) (option_map (searched text) own)
        by (Some held) = (
          with_groups (in_hand s main text) groups text held,
          refl,
          subst (λ own. Holds own (searched text held) (with_groups (in_hand s main text) groups text held)) (sym is)
              ((λ at. refl), refl),
          refl,
          refl,
        )
        by None = later_goes

    by_test : (own : PathTest) → from entry ≡ own
        → Ends (plan_run (taken own step) (in_hand s main text)) (found_by own path)
    unfolding plan_run
    by_test (Prefix front) is = prefix_goes front is
    by_test (Search pattern) is = search_goes pattern is

  pub entries_go : (entries : List E) → Goes entries
  unfolding plan_run entries_plan
  entries_go [] plan s meets = (s, refl, refl, refl)
  entries_go (entry ∷ entries) plan s meets = by_test entry entries (entries_go entries) plan s meets
      (from entry) refl

-- ---- the mapping

module _ (caller : Caller) (servers : List Server) (path query : List ℕ) where
  abbrev rooted : Plan Placing
  rooted = under_root_plan (root_of servers) Slot.Path

  abbrev named_plan : Plan Placing
  named_plan = aliases_plan (maps_of servers) rooted

  root_maps : (s : State) → s.slots Slot.Path ≡ path → (root : Option (List ℕ))
      → Maps caller s (plan_run (under_root_plan root Slot.Path) s) (under_root root path)
  unfolding plan_run
  root_maps s meets None = (s, refl)
  root_maps s meets (Some root) =
      (_, refl, ap (λ path. root ++ path) (append-nil (s.slots Slot.Path) ∙ meets), refl, refl)

  -- Maps looks at slots and client alone.
  moved : (s later : State) (first : PlanRun Placing) → later.slots ≡ s.slots → later.client ≡ s.client
      → (own : Mapped) → Maps caller later first own → Maps caller s first own
  moved s later first slots client (mapped.Name name from) is = (is.0, is.1, is.2, is.3 ∙ slots, is.4 ∙ client)
  moved s later first slots client (mapped.Away away) is = is
  moved s later first slots client mapped.NoRoot is = is

  aliases_map : (s : State) → s.slots Slot.Path ≡ path
      → Maps caller s (plan_run named_plan s) (or_named (aliased (maps_of servers) path) (under_root (root_of servers) path))
  unfolding plan_run
  aliases_map s meets =
      by (first_taking (λ alias. alias.from) (maps_of servers) path) (plan_run named_plan s)
      (entries_go (λ alias. alias.from) alias_named path (maps_of servers) rooted s meets)
    where
      by : (own : Option (Alias × Found)) (first : PlanRun Placing)
          → Entered (λ alias. alias.from) alias_named path rooted s first own
          → Maps caller s first (or_named (option_map named_by own) (under_root (root_of servers) path))
      by None first is =
          subst (λ first. Maps caller s first (under_root (root_of servers) path)) (sym is.1)
          (moved s is.0 (plan_run rooted is.0) is.2 is.3 (under_root (root_of servers) path)
          (root_maps is.0 (ap (λ slots. slots Slot.Path) is.2 ∙ meets) (root_of servers)))
      by (Some own) first is = (
        holding (in_hand is.0 main
            (text_of is.0 (target_items own.0.from own.0.to ++ rest_items own.0.from))) groups (λ at. []),
        is.1,
        text_of_both is.0 (target_items own.0.from own.0.to) (rest_items own.0.from)
            ∙ ap₂ (λ (front rest : List ℕ). front ++ rest) (target_is own.0.from own.1 is.0 is.2 own.0.to)
            (rest_is own.0.from own.1 is.0 is.2),
        is.3,
        is.4,
      )

  pub map_goes : (s : State) → s.slots Slot.Path ≡ path → s.slots Slot.Query ≡ query
      → Maps caller s (plan_run (map_plan servers) s) (mapped_among servers path query caller)
  unfolding map_plan
  map_goes s meets asked =
      by (first_taking (λ redirect. redirect.from) (redirects_of servers) path) refl
      (plan_run (redirects_plan over (redirects_of servers) named_plan) s)
      (entries_go (λ redirect. redirect.from) (sent_away over) path (redirects_of servers) named_plan s meets)
    where
      by : (own : Option (Redirect × Found)) → first_taking (λ redirect. redirect.from) (redirects_of servers) path ≡ own
          → (first : PlanRun Placing)
          → Entered (λ redirect. redirect.from) (sent_away over) path named_plan s first own
          → Maps caller s first (unless_away (option_map (away_by caller query) own)
          (or_named (aliased (maps_of servers) path) (under_root (root_of servers) path)))
      by None own_is first is =
          let mapped = or_named (aliased (maps_of servers) path) (under_root (root_of servers) path) in
          subst (λ first. Maps caller s first mapped) (sym is.1)
          (moved s is.0 (plan_run named_plan is.0) is.2 is.3 mapped
          (aliases_map is.0 (ap (λ slots. slots Slot.Path) is.2 ∙ meets)))
      by (Some own) own_is first is =
          subst (λ first. Sends caller over first (away_by caller query own)) (sym is.1)
          (sends over caller path query own.0 own.1
          (takes (λ redirect. redirect.from) path (redirects_of servers) own own_is) is.0
          (ap (λ slots. slots Slot.Path) is.3 ∙ meets) (ap (λ slots. slots Slot.Query) is.3 ∙ asked))
