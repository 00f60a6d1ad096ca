-- What is found where the pattern of a rule is looked for are the branches of its plan.
use Rattle.hc_abs_rw.proofs.Common.{◌≡◌, ◌∙◌, ℕ, List, [], ◌∷◌, ◌++◌, length, Bool, true, false, not, Option, None, Some}
use Rattle.hc_abs_rw.proofs.Common.{refl, sym, ap, subst, inl, if◌then◌else◌, Plan, Slot, done, pick, append-nil}
use Rattle.hc_abs_rw.proofs.Common.{append_assoc, arith}
use Rattle.std.specs.Prelude.{nat_eq}
use Rattle.std.specs.List.{starts_with}
use Rattle.std.specs.declared.alloc.Global.{Global}
use Rattle.std.specs.declared.rc.Rc.{Rc}
use Rattle.hc_addr.specs.declared.addr.Addr.{Addr}
use Rattle.hc_cells.specs.Cells.{Sets}
use Rattle.hc_cells.specs.declared.ties.Ties.{Ties}
use Rattle.hc_dfa.specs.Texts.{IsText, TextSet}
use Rattle.hc_model.specs.declared.rewrite.Rule.{Rule}
use Rattle.hc_pattern.specs.Pattern.{Pattern}
use Rattle.hc_plan.proofs.Coded.{Follows, Keeps, end_fits, look_fits, put_down_fits, shorten_fits, take_up_fits, test_fits}
use Rattle.hc_plan.specs.Branches.{finds, found_in, others, without_texts}
use Rattle.hc_plan.specs.Coded.{AreBranches}
use Rattle.hc_plan.specs.Hands.{cell_of, parts_of}
use Rattle.hc_plan.specs.Plan.{put_down, shorten}
use Rattle.hc_plan.specs.States.{AbsState, AbsText, Given, open_slot, shorter, this, whole, with_text}
use Rattle.hc_plan.specs.Texts.{all_three}
use Rattle.hc_plan.specs.Ways.{Stands, on}
use Rattle.hc_plan.specs.declared.hand.Element.{Element}
use Rattle.hc_plan.specs.declared.hand.Element.TheVariants as element
use Rattle.hc_plan.specs.declared.hand.Way.{Way}
use Rattle.hc_plan.specs.declared.held.Found.{Found}
use Rattle.hc_rw_eval.specs.Directories.{with_slash}
use Rattle.hc_rw_expand.specs.Contexts.{Engine, engine_of}
use Rattle.hc_rw_expand.specs.declared.context.Engine.{Engine as LentEngine}
use Rattle.hc_abs_rw.specs.Attempts.{pattern_plan, subject_plan}
use Rattle.hc_abs_rw.specs.Frames.{Frame}
use Rattle.hc_abs_rw.specs.Conditions.{counted_set, find}
use Rattle.hc_abs_rw.specs.Known.{Fits, HeldFits}
use Rattle.hc_abs_rw.specs.Looking.{AddsFoundOn, AddsLooked, AddsLookedOn, AddsSubject, AreFound, AreLooked, AreLookedIn}
use Rattle.hc_abs_rw.specs.Looking.{FoundOn}
use Rattle.hc_abs_rw.specs.Looking.{IsBare, IsLookedLeft, IsSubject, LookedFits, LookedOn, find_plan, grouping_rule}
use Rattle.hc_abs_rw.specs.Templates.{groups, main, slot_item}
use Rattle.hc_abs_rw.specs.Trials.{AreWays}
use Rattle.hc_abs_rw.specs.declared.pattern.Looked.{Looked}
use Rattle.hc_abs_rw.specs.declared.pattern.Subject.{Subject}
use Rattle.hc_abs_rw.specs.declared.ways.Ways.{Ways}
use Rattle.hc_abs_rw.proofs.Knowing.{held_fits}
use Rattle.hc_abs_rw.proofs.Trials.{apart_on, asked_on}

module _ (ties : Ties) (held : Bool) (pattern : Option Pattern) (elements : List Element) (off : ℕ)
    (before after : List Looked) where
  pub adds_none : (way : Option Way) → way ≡ None → after ≡ before
      → AddsLookedOn ties held pattern elements off way before after
  adds_none way none same =
      subst (λ way. AddsLookedOn ties held pattern elements off way before after) (sym none)
      ([], same ∙ sym (append-nil before), refl)

  pub adds_one : (way : Option Way) (one : Way) (left : Looked) → way ≡ Some one → after ≡ before ++ left ∷ []
      → IsLookedLeft ties held pattern elements off one left → AddsLookedOn ties held pattern elements off way before after
  adds_one way one left some is left_so =
      subst (λ way. AddsLookedOn ties held pattern elements off way before after) (sym some)
      (left ∷ [], is, (left, refl, left_so))

module _ (rule : Rule) (ties : Ties) (elements : List Element) (off : ℕ) (before after : List Looked) where
  pub nothing_on : (way : Option Way) → way ≡ None → after ≡ before → AddsFoundOn rule ties elements off way before after
  nothing_on way none same =
      subst (λ way. AddsFoundOn rule ties elements off way before after) (sym none)
      ([], same ∙ sym (append-nil before), refl)

  pub found_on : (way : Option Way) (one : Way) (subject : Subject) → way ≡ Some one
      → IsSubject subject one ties elements off → AddsLooked rule subject before after
      → AddsFoundOn rule ties elements off way before after
  found_on way one subject some is adds =
      subst (λ way. AddsFoundOn rule ties elements off way before after) (sym some)
      (adds.0, adds.1, (subject, is, adds.2))

module _ (client : Option Addr) (rule : Rule) (subject : Subject) (way : Way) (left : Looked) (held : Bool)
    (set : TextSet) (state now : AbsState)
    (stands : Stands way.cell subject.ties subject.elements.items subject.off way.side now main)
    (keeps : Keeps state main set now) (bare : IsBare client state) where
  given_now : now.given ≡ all_three (λ at. this [])
  given_now = keeps.given ∙ bare.given

  nothing_held : (own : Option (Rc Found Global)) → own ≡ None → (given : ℕ → Given) → given ≡ (λ at. this [])
      → HeldFits own given
  nothing_held own none given is =
      subst (λ own. HeldFits own given) (sym none) (λ number. ap (λ given. given number) is)

  -- Nothing is held.
  left_bare : IsLookedLeft subject.ties held None subject.elements.items subject.off way left
      → Fits client left.known (without_texts now)
  left_bare is = record {
    cell = stands.holds ∙ ap cell_of (sym is.cell);
    ties = stands.tied ∙ sym is.ties_left;
    holds = record {
      groups = nothing_held left.known.groups is.groups_left now.given.first (ap (λ given. given.first) given_now);
      conds = nothing_held left.known.cond_groups is.conds now.given.second (ap (λ given. given.second) given_now);
      printed = keeps.printed ∙ bare.printed;
    };
    looked = ap (λ given. given.third) given_now;
  }

  -- The groups are.
  left_found : (pattern : Pattern)
      → IsLookedLeft subject.ties held (Some pattern) subject.elements.items subject.off way left
      → Fits client left.known (without_texts (found_in now groups pattern main))
  left_found pattern is = record {
    cell = stands.holds ∙ ap cell_of (sym is.cell);
    ties = stands.tied ∙ sym is.ties_left;
    holds = record {
      groups = held_fits left.known.groups pattern way.cell subject.elements.items subject.off way.side now.cell
          (pick now.texts main) stands.holds stands.hand is.groups_left;
      conds = nothing_held left.known.cond_groups is.conds now.given.second (ap (λ given. given.second) given_now);
      printed = keeps.printed ∙ bare.printed;
    };
    looked = ap (λ given. given.third) given_now;
  }

module _ (client : Option Addr) (rule : Rule) (subject : Subject) (found : TextSet)
    (means : (x : List ℕ) → IsText x → found x ≡ finds rule.pat x) (ways : Ways)
    (are : AreWays subject.cell subject.ties subject.elements.items subject.off subject.side rule.negated found ways)
    (first rest : List Looked)
    (is_first : LookedOn subject.ties true (grouping_rule rule) subject.elements.items subject.off ways.held first)
    (is_rest : LookedOn subject.ties false None subject.elements.items subject.off ways.failed rest) (state : AbsState)
    (stands : Stands subject.cell subject.ties subject.elements.items subject.off subject.side state main)
    (bare : IsBare client state) where
  abbrev ends : Bool → Plan Bool
  ends holds = put_down (done holds)

  end_of : (left : Looked) (held : Bool) (now : AbsState) → left.holds ≡ held
      → Fits client left.known (without_texts now) → AreBranches (LookedFits client) (ends held) now (left ∷ [])
  end_of left held now holds fits =
      put_down_fits (LookedFits client) now (done held) (left ∷ [])
      (end_fits (LookedFits client) (without_texts now) held left (record { known = fits; holds = sym holds }))

  abbrev After : (AbsState → AbsState) → TextSet → Bool → Option Way → List Looked → Type 0
  After after asked held way left = Follows (LookedFits client) subject.cell subject.ties subject.elements.items
      subject.off subject.side state main stands after asked (ends held) way left

  bare_after : (asked : TextSet) (held : Bool) (way : Option Way) (left : List Looked)
      → LookedOn subject.ties held None subject.elements.items subject.off way left → After (λ now. now) asked held way left
  bare_after asked held None left is = is
  bare_after asked held (Some way) left is = λ now stands keeps.
      subst (λ left. AreBranches (LookedFits client) (ends held) now left) (sym is.1)
      (end_of is.0 held now is.2.holds
      (left_bare client rule subject way is.0 held asked state now stands keeps bare is.2))

  found_after : (asked : TextSet) (pattern : Pattern) (way : Option Way) (left : List Looked)
      → LookedOn subject.ties true (Some pattern) subject.elements.items subject.off way left
      → After (λ now. found_in now groups pattern main) asked true way left
  found_after asked pattern None left is = is
  found_after asked pattern (Some way) left is = λ now stands keeps.
      subst (λ left. AreBranches (LookedFits client) (ends true) (found_in now groups pattern main) left) (sym is.1)
      (end_of is.0 true (found_in now groups pattern main) is.2.holds
      (left_found client rule subject way is.0 true asked state now stands keeps bare pattern is.2))

  pub found_fits : AreBranches (LookedFits client) (find_plan rule) state (first ++ rest)
  found_fits = by rule.negated refl
    where
      by : (negated : Bool) → rule.negated ≡ negated
          → AreBranches (LookedFits client) (find groups rule.pat negated ends) state (first ++ rest)
      by true is =
          test_fits (LookedFits client) subject.cell subject.ties subject.elements.items subject.off subject.side state
          main stands (counted_set true (finds rule.pat)) (on (not true) found) (on true found) ends ways.held ways.failed
          first rest (λ x text. asked_on true (finds rule.pat) found x (means x text))
          (λ x text. apart_on true (finds rule.pat) found x (means x text))
          (subst (λ negated. AreWays subject.cell subject.ties subject.elements.items subject.off subject.side negated
          found ways) is are).0
          (subst (λ negated. AreWays subject.cell subject.ties subject.elements.items subject.off subject.side negated
          found ways) is are).1
          (bare_after (others (counted_set true (finds rule.pat))) false ways.failed rest is_rest)
          (bare_after (counted_set true (finds rule.pat)) true ways.held first
          (subst (λ negated. LookedOn subject.ties true (if negated then None else Some rule.pat)
          subject.elements.items subject.off ways.held first) is is_first))
      by false is =
          look_fits (LookedFits client) subject.cell subject.ties subject.elements.items subject.off subject.side state
          main stands (finds rule.pat) (on (not false) found) (on false found) ends ways.held ways.failed
          first rest (λ x text. asked_on false (finds rule.pat) found x (means x text))
          (λ x text. apart_on false (finds rule.pat) found x (means x text))
          (subst (λ negated. AreWays subject.cell subject.ties subject.elements.items subject.off subject.side negated
          found ways) is are).0
          (subst (λ negated. AreWays subject.cell subject.ties subject.elements.items subject.off subject.side negated
          found ways) is are).1
          (bare_after (others (finds rule.pat)) false ways.failed rest is_rest) groups rule.pat refl
          (found_after (finds rule.pat) rule.pat ways.held first
          (subst (λ negated. LookedOn subject.ties true (if negated then None else Some rule.pat)
          subject.elements.items subject.off ways.held first) is is_first))

-- ---- the text in which it is looked for

with_hand : (client : Option Addr) (state : AbsState) (own : AbsText) → IsBare client state
    → IsBare client (with_text state main own)
with_hand client state own bare = record { given = bare.given; printed = bare.printed }

bare_kept : (client : Option Addr) (set : TextSet) (state now : AbsState) → Keeps state main set now
    → IsBare client state → IsBare client now
bare_kept client set state now keeps bare =
    record { given = keeps.given ∙ bare.given; printed = keeps.printed ∙ bare.printed }

-- Slots in hand, of which no test was made.
taken : (state : AbsState) (sets : Sets) (ties : Ties) (elements : List Element) → state.cell ≡ cell_of sets
    → state.ties ≡ ties
    → Stands sets ties elements 0 None (with_text state main (whole (parts_of elements))) main
taken state sets ties elements cell tied = record {
  holds = cell;
  tied = tied;
  hand = record { made = refl; behind = refl; lies = inl (λ x bytes. refl) };
}

abbrev pub text_open : List Element
text_open = element.Open Slot.Text 0 ∷ []

abbrev pub info_open : List Element
info_open = element.Open Slot.Text 0 ∷ element.Open Slot.Info 0 ∷ []

-- In a server.
pub looked_alone : (client : Option Addr) (rule : Rule) (subject : Subject) (found : List Looked) (state : AbsState)
    → subject.elements.items ≡ text_open → subject.off ≡ 0 → subject.side ≡ None → AreFound client rule subject found
    → state.cell ≡ cell_of subject.cell → state.ties ≡ subject.ties → IsBare client state
    → AreBranches (LookedFits client) (subject_plan None (find_plan rule)) state found
looked_alone client rule subject found state elements off side are cell tied bare =
    take_up_fits (LookedFits client) state main (slot_item Slot.Text ∷ []) (parts_of text_open) (find_plan rule) found
    (open_slot Slot.Text 0, [], refl, refl, refl)
    (are (with_text state main (whole (parts_of text_open)))
    (subst (λ elements. Stands subject.cell subject.ties elements subject.off subject.side
    (with_text state main (whole (parts_of text_open))) main) (sym elements)
    (subst (λ off. Stands subject.cell subject.ties text_open off subject.side
    (with_text state main (whole (parts_of text_open))) main) (sym off)
    (subst (λ side. Stands subject.cell subject.ties text_open 0 side
    (with_text state main (whole (parts_of text_open))) main) (sym side)
    (taken state subject.cell subject.ties text_open cell tied))))
    (with_hand client state (whole (parts_of text_open)) bare))

module _ (client : Option Addr) (engine : Engine) (rule : Rule) (sets : Sets) (ties : Ties) (begins : TextSet)
    (means : (x : List ℕ) → IsText x → begins x ≡ starts_with nat_eq x (with_slash engine.dir)) (ways : Ways)
    (are : AreWays sets ties info_open 0 None false begins ways) (first rest : List Looked)
    (is_first : FoundOn rule ties info_open (length (with_slash engine.dir)) ways.held first)
    (is_rest : FoundOn rule ties info_open 0 ways.failed rest) (state : AbsState) (cell : state.cell ≡ cell_of sets)
    (tied : state.ties ≡ ties) (bare : IsBare client state) where
  abbrev front : ℕ
  front = length (with_slash engine.dir)

  abbrev ready : AbsState
  ready = with_text state main (whole (parts_of info_open))

  abbrev stands : Stands sets ties info_open 0 None ready main
  stands = taken state sets ties info_open cell tied

  abbrev within_plan : Bool → Plan Bool
  within_plan within = elim within [ true ↦ shorten main front (find_plan rule) | false ↦ find_plan rule ]

  subject_stands : (subject : Subject) (off : ℕ) (way : Way) (now : AbsState) → IsSubject subject way ties info_open off
      → Stands way.cell ties info_open off way.side now main
      → Stands subject.cell subject.ties subject.elements.items subject.off subject.side now main
  subject_stands subject off way now is stands =
      subst (λ side. Stands subject.cell subject.ties subject.elements.items subject.off side now main) (sym is.side)
      (subst (λ off. Stands subject.cell subject.ties subject.elements.items off way.side now main) (sym is.taken_off)
      (subst (λ elements. Stands subject.cell subject.ties elements off way.side now main) (sym is.elements_are)
      (subst (λ ties. Stands subject.cell ties info_open off way.side now main) (sym is.ties_are)
      (subst (λ sets. Stands sets ties info_open off way.side now main) (sym is.cell) stands))))

  shortened : (way : Way) (now : AbsState) → Stands way.cell ties info_open 0 way.side now main
      → Stands way.cell ties info_open front way.side (with_text now main (shorter (pick now.texts main) front)) main
  shortened way now stood = record {
    holds = stood.holds;
    tied = stood.tied;
    hand = record {
      made = stood.hand.made;
      behind = (let none = stood.hand.behind in omega (arith, none));
      lies = stood.hand.lies;
    };
  }

  held_way : (asked : TextSet) (way : Option Way) (found : List Looked) → FoundOn rule ties info_open front way found
      → Follows (LookedFits client) sets ties info_open 0 None ready main stands (λ now. now) asked (within_plan true) way
      found
  held_way asked None found is = is
  held_way asked (Some way) found is = λ now stands keeps.
      let behind = with_text now main (shorter (pick now.texts main) front) in
      shorten_fits (LookedFits client) now main front (find_plan rule) found
      (is.2 client behind (subject_stands is.0 front way behind is.1 (shortened way now stands))
      (with_hand client now (shorter (pick now.texts main) front)
      (bare_kept client asked ready now keeps (with_hand client state (whole (parts_of info_open)) bare))))

  failed_way : (asked : TextSet) (way : Option Way) (found : List Looked) → FoundOn rule ties info_open 0 way found
      → Follows (LookedFits client) sets ties info_open 0 None ready main stands (λ now. now) asked (within_plan false)
      way found
  failed_way asked None found is = is
  failed_way asked (Some way) found is = λ now stands keeps.
      is.2 client now (subject_stands is.0 0 way now is.1 stands)
      (bare_kept client asked ready now keeps (with_hand client state (whole (parts_of info_open)) bare))

  -- In a directory.
  pub looked_within : AreBranches (LookedFits client) (subject_plan (Some engine) (find_plan rule)) state (first ++ rest)
  looked_within =
      take_up_fits (LookedFits client) state main (slot_item Slot.Text ∷ slot_item Slot.Info ∷ [])
      (parts_of info_open) _ (first ++ rest)
      (open_slot Slot.Text 0, open_slot Slot.Info 0 ∷ [], refl, refl, (open_slot Slot.Info 0, [], refl, refl, refl))
      (test_fits (LookedFits client) sets ties info_open 0 None ready main stands
      (λ text. starts_with nat_eq text (with_slash engine.dir)) (on true begins) (on false begins) within_plan ways.held
      ways.failed first rest (λ x text. sym (means x text)) (λ x text. ap not (sym (means x text))) are.0 are.1
      (failed_way (λ text. not (starts_with nat_eq text (with_slash engine.dir))) ways.failed rest is_rest)
      (held_way (λ text. starts_with nat_eq text (with_slash engine.dir)) ways.held first is_first))

-- ---- what is added

pub looked_adds : (rule : Rule) (subject : Subject) (set : TextSet) (ways : Ways) (before mid after : List Looked)
    → ((x : List ℕ) → IsText x → set x ≡ finds rule.pat x)
    → AreWays subject.cell subject.ties subject.elements.items subject.off subject.side rule.negated set ways
    → AddsLookedOn subject.ties true (grouping_rule rule) subject.elements.items subject.off ways.held before mid
    → AddsLookedOn subject.ties false None subject.elements.items subject.off ways.failed mid after
    → AddsLooked rule subject before after
looked_adds rule subject set ways before mid after means are first rest = (
  first.0 ++ rest.0,
  rest.1 ∙ ap (λ so_far. so_far ++ rest.0) first.1 ∙ append_assoc before first.0 rest.0,
  λ client state stands bare.
      found_fits client rule subject set means ways are first.0 rest.0 first.2 rest.2 state stands bare,
)

pub within_adds : (engine : LentEngine) (rule : Rule) (sets : Sets) (ties : Ties) (begins : TextSet) (ways : Ways)
    (before mid after : List Looked)
    → ((x : List ℕ) → IsText x → begins x ≡ starts_with nat_eq x (with_slash engine.dir.now))
    → AreWays sets ties info_open 0 None false begins ways
    → AddsFoundOn rule ties info_open (length (with_slash engine.dir.now)) ways.held before mid
    → AddsFoundOn rule ties info_open 0 ways.failed mid after → AddsSubject engine rule sets ties before after
within_adds engine rule sets ties begins ways before mid after means are first rest = (
  first.0 ++ rest.0,
  rest.1 ∙ ap (λ so_far. so_far ++ rest.0) first.1 ∙ append_assoc before first.0 rest.0,
  λ client state cell tied bare.
      looked_within client (engine_of engine) rule sets ties begins means ways are first.0 rest.0 first.2 rest.2 state cell tied bare,
)

-- The code begins with nothing found.
from_nothing : {P : List Looked → Type 0} (before after : List Looked) → before ≡ []
    → (added : (found : List Looked) × (after ≡ before ++ found) × P found) → P after
from_nothing {P} before after none added =
    subst P (sym (added.1 ∙ ap (λ before. before ++ added.0) none)) added.2

pub alone_found : (frame : Frame) (client : Option Addr) (rule : Rule) (subject : Subject) (before after : List Looked)
    → frame.engine ≡ None → before ≡ [] → subject.elements.items ≡ text_open → subject.off ≡ 0 → subject.side ≡ None
    → AddsLooked rule subject before after → AreLooked frame client rule subject.cell subject.ties after
unfolding pattern_plan
alone_found frame client rule subject before after none empty elements off side adds state cell tied bare =
    subst (λ engine. AreBranches (LookedFits client) (subject_plan engine (find_plan rule)) state after) (sym none)
    (looked_alone client rule subject after state elements off side
    (from_nothing {P = λ found. (client : Option Addr) → AreFound client rule subject found} before after empty adds client)
    cell tied bare)

pub within_found : (frame : Frame) (client : Option Addr) (engine : LentEngine) (rule : Rule) (sets : Sets) (ties : Ties)
    (before after : List Looked) → frame.engine ≡ Some (engine_of engine) → before ≡ []
    → AddsSubject engine rule sets ties before after → AreLooked frame client rule sets ties after
unfolding pattern_plan
within_found frame client engine rule sets ties before after some empty adds state cell tied bare =
    subst (λ engine. AreBranches (LookedFits client) (subject_plan engine (find_plan rule)) state after) (sym some)
    (from_nothing {P = λ found. (client : Option Addr) → AreLookedIn client engine rule sets ties found} before after empty
    adds client state cell tied bare)
