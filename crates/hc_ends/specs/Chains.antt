-- The ends of all requests of the chains of a scope, in order: what follows a redirect comes before it. Our own choice.
use Rattle.std.specs.Prelude.{◌≡◌, ◌⊎◌, ℕ, zero, suc, List, [], ◌∷◌, ◌++◌, Bool, true, false}
use Rattle.std.specs.Prelude.{Option, None, Some, unwrap_or}
use Rattle.std.specs.List.{list_any}
use Rattle.hc_dfa.specs.Automata.{Automaton, accepts}
use Rattle.hc_dfa.specs.Texts.{TextSet}
use Rattle.hc_follow.specs.declared.chain.TheConstants.{MOST_STEPS}
use Rattle.hc_model.specs.declared.event.Decision.{Decision}
use Rattle.hc_model.specs.declared.request.Caller.{Caller}
use Rattle.hc_named.specs.Named.{AreNames}
use Rattle.hc_named.specs.declared.names.Names.{Names}
use Rattle.hc_plan.specs.Hands.{set_in}
use Rattle.hc_plan.specs.Slots.{Slot}
use Rattle.hc_members.specs.Requests.{common_request}
use Rattle.hc_scope.specs.declared.claim.Scope.{Scope}
use Rattle.hc_serve.specs.Site.{caller_at}
use Rattle.hc_abs_leaves.specs.Some.{AreSome}
use Rattle.hc_abs_pass.specs.Ends.{Left, sent}
use Rattle.hc_abs_pass.specs.Passing.{Finish, ruled, stopped}
use Rattle.hc_abs_rw.specs.Substitutions.{Then, redirect}
use Rattle.hc_abs_tree.specs.Trees.{AreLeaves, Leaf, Node, Soil}
use Rattle.hc_claim.specs.Asking.{AreUnder, host_of, known_before, rules_of, soil_of}
use Rattle.hc_claim.specs.Bad.{is_out}
use Rattle.hc_sent.specs.Making.{AreDirected, AreRuled}
use Rattle.hc_sent.specs.Ways.{AreLedFrom, AreReachedFrom}
use Rattle.hc_sent.specs.declared.leading.Led.{Led}
use Rattle.hc_sent.specs.declared.leading.Led.TheVariants as led
use Rattle.hc_sent.specs.declared.leading.Reach.{Reach}
use Rattle.hc_sent.specs.declared.leading.Reach.TheVariants as reach
use Rattle.hc_sent.specs.declared.parts.Part.{Part}
use Rattle.hc_ends.specs.Asking.{Site, asked_at, next_scope}

-- ---- the location at a leaf

-- Its status and its parts, where the leaf is a redirect.
pub data Sends : Type 0 where
  nowhere : Sends
  to : ℕ → List Part → Sends

-- Parts that are made of the texts that a slot may have, and of queries.
pub record AreFrom (Are : TextSet → TextSet → List Part → Type 0) (cell : Slot → TextSet) (slot : Slot)
    (parts : List Part) : Type 0 where
  pub texts : Automaton
  pub holds : cell slot ≡ set_in texts
  pub queries : Automaton
  pub asks : cell Slot.Query ≡ set_in queries
  pub are : Are (accepts texts) (accepts queries) parts

abbrev pub IsTo : (List Part → Type 0) → ℕ → Sends → Type 0
IsTo Are status found = (parts : List Part) × Are parts × (found ≡ to status parts)

module _ (caller : Caller) (cell : Slot → TextSet) where
  abbrev pub IsSentBy : Left → Sends → Type 0
  IsSentBy (sent own) found = IsTo (AreFrom (AreDirected caller own) cell Slot.Path) own.status found
  IsSentBy left found = found ≡ nowhere

  abbrev pub IsSentOn : Then → Sends → Type 0
  IsSentOn (redirect status front noescape) found =
      IsTo (AreFrom (AreRuled front noescape) cell Slot.Location) status found
  IsSentOn next found = found ≡ nowhere

  abbrev pub IsSent : Finish → Sends → Type 0
  IsSent (stopped left) found = IsSentBy left found
  IsSent (ruled next) found = IsSentOn next found
  IsSent other found = found ≡ nowhere

-- What all requests of a scope have in common.
abbrev pub caller_of : Site → Scope → Caller
caller_of site scope = caller_at site.config (host_of (asked_at site scope)) (common_request scope)

-- ---- ends

-- The end of a request of a chain: what was decided on the way, in all requests; where the first one ended; and whether
-- the claim may be broken here.
pub record End : Type 0 where
  pub decisions : List Decision
  pub first : Leaf
  pub bad : Bool

-- What comes before a request of a chain.
pub record Before : Type 0 where
  pub decisions : List Decision
  pub first : Option Leaf

abbrev pub none_before : Before
none_before = record { decisions = []; first = None }

abbrev pub end_at : Before → Leaf → Bool → End
end_at before leaf bad = record {
  decisions = before.decisions ++ leaf.decisions;
  first = unwrap_or before.first leaf;
  bad = bad;
}

abbrev pub behind : Before → Leaf → Before
behind before leaf = record {
  decisions = before.decisions ++ leaf.decisions;
  first = Some (unwrap_or before.first leaf);
}

-- ---- where a redirect leads

abbrev pub is_outward : Led → Bool
is_outward led.Outside = true
is_outward other = false

abbrev pub is_own : Reach → Bool
is_own reach.Own = true
is_own reach.Away = false

-- The ends behind each of these, one behind the other.
abbrev pub AllBehind : {A : Type 0} → (A → List End → Type 0) → List A → List End → Type 0
AllBehind One [] ends = ends ≡ []
AllBehind One (own ∷ rest) ends =
    (first : List End) × (more : List End) × (ends ≡ first ++ more) × One own first × AllBehind One rest more

-- ---- chains

-- Of a tree whose ends are cut off, some leaves are told; and what follows any of them may be left out.
module _ (site : Site) (cut : Bool) (levels : ℕ) where
  abbrev pub told_by : Bool → Soil → Node → List Leaf → Type 0
  told_by true = AreSome
  told_by false = AreLeaves

  -- The leaves of the requests of a scope.
  pub record HasLeaves (scope : Scope) (own : List Leaf) : Type 0 where
    pub names : Names
    pub named : AreNames (rules_of (asked_at site scope)) names
    pub under : AreUnder (told_by cut) (soil_of (asked_at site scope) levels names)
        (known_before (asked_at site scope) names) own

  abbrev pub OrCut : List End → (List End → Type 0) → List End → Type 0
  OrCut left Are ends = ((cut ≡ true) × (ends ≡ left)) ⊎ Are ends

  module _ (scope : Scope) (before : Before) (leaf : Leaf) where
    abbrev pub IsLed : (Scope → Before → List End → Type 0) → ℕ → Led → List End → Type 0
    IsLed Further status (led.On origin paths queries) ends =
        OrCut [] (Further (next_scope scope status origin paths queries) (behind before leaf)) ends
    IsLed Further status other ends = ends ≡ []

    -- A redirect may break the claim where it may lead outside.
    abbrev pub AreLed : (Scope → Before → List End → Type 0) → Sends → List End → Type 0
    AreLed Further nowhere ends = ends ≡ end_at before leaf (is_out leaf.finish) ∷ []
    AreLed Further (to status parts) ends = (leds : List Led) × AreLedFrom parts [] site.hosts leds
        × (further : List End) × AllBehind (IsLed Further status) leds further
        × (ends ≡ further ++ end_at before leaf (list_any is_outward leds) ∷ [])

    -- Where no further redirect is followed, one to an own server may.
    abbrev pub AreLast : Sends → List End → Type 0
    AreLast nowhere ends = ends ≡ end_at before leaf (is_out leaf.finish) ∷ []
    AreLast (to status parts) ends = (reached : List Reach) × AreReachedFrom parts [] site.hosts reached
        × (ends ≡ end_at before leaf (list_any is_own reached) ∷ [])

    abbrev pub AreAt : (Sends → List End → Type 0) → List End → Type 0
    AreAt Are ends = (sends : Sends) × IsSent (caller_of site scope) leaf.known.cell leaf.finish sends × Are sends ends

  -- At a leaf, where so many redirects may be followed.
  abbrev pub AreLeafIn : (Scope → Before → Leaf → Sends → List End → Type 0) → Scope → Before → Leaf → List End → Type 0
  AreLeafIn Are scope before leaf ends =
      OrCut (end_at before leaf false ∷ []) (AreAt scope before leaf (Are scope before leaf)) ends

  abbrev pub AreIn : (Scope → Before → Leaf → Sends → List End → Type 0) → Scope → Before → List End → Type 0
  AreIn Are scope before ends =
      (own : List Leaf) × HasLeaves scope own × AllBehind (AreLeafIn Are scope before) own ends

  unfoldable pub ChainsIn : ℕ → Scope → Before → List End → Type 0
  ChainsIn zero = AreIn AreLast
  ChainsIn (suc left) = AreIn (λ scope before leaf. AreLed scope before leaf (ChainsIn left))

-- All ends, and some of them.
abbrev pub AreEnds : Site → ℕ → Scope → List End → Type 0
AreEnds site levels scope = ChainsIn site false levels MOST_STEPS scope none_before

abbrev pub AreSomeEnds : Site → ℕ → Scope → List End → Type 0
AreSomeEnds site levels scope = ChainsIn site true levels MOST_STEPS scope none_before
