-- Texts in hand that become file names.
use Rattle.hc_abs_map.proofs.Common.{◌≡◌, ◌∙◌, ℕ, List, [], ◌∷◌, ◌++◌, Bool, true, false, not, ◌&&◌, Option, None, Some, refl}
use Rattle.hc_abs_map.proofs.Common.{sym, ap, subst, inl, inr, Plan, done, pick, true≢false, if◌then◌else◌}
use Rattle.std.specs.declared.alloc.Global.{Global}
use Rattle.std.specs.declared.vec.Vec.{Vec}
use Rattle.hc_addr.specs.declared.addr.Addr.{Addr}
use Rattle.hc_base.specs.Paths.{has_dots, has_double_slash, is_slash, merge_slashes}
use Rattle.hc_cells.specs.declared.ties.Ties.{Ties}
use Rattle.hc_dfa.specs.Automata.{Automaton, accepts}
use Rattle.hc_dfa.specs.Built.{Accepts}
use Rattle.hc_dfa.specs.Texts.{IsText, TextSet}
use Rattle.hc_pat_lang.specs.Sets.{AcceptsOnly, IsMerged}
use Rattle.hc_plan.proofs.Coded.{Follows, end_fits, test_fits}
use Rattle.hc_plan.proofs.Made.{set_of_bytes}
use Rattle.hc_plan.specs.Branches.{Branch, Tidied, others}
unfoldable use Rattle.hc_plan.specs.Branches.{Branches}
use Rattle.hc_plan.specs.Coded.{AreBranches}
use Rattle.hc_plan.specs.Hands.{set_in}
use Rattle.hc_plan.specs.Plan.{test, tidy}
use Rattle.hc_plan.specs.States.{AbsState, Has, any_of, with_text}
use Rattle.hc_plan.specs.Texts.{IsSetOf}
use Rattle.hc_plan.specs.Ways.{IsHandSet, Stands, on}
use Rattle.hc_plan.specs.declared.hand.Element.{Element}
use Rattle.hc_plan.specs.declared.hand.Element.TheVariants as element
use Rattle.hc_plan.specs.declared.hand.Way.{Way}
use Rattle.hc_plan.specs.declared.storing.Tied.{Tied}
use Rattle.hc_abs_rw.proofs.Images.{accepted, bytes_of, hand_has, there}
use Rattle.hc_abs_rw.specs.Templates.{main}
use Rattle.hc_abs_rw.specs.Trials.{AreWays}
use Rattle.hc_abs_rw.specs.declared.ways.Ways.{Ways}
use Rattle.hc_abs_pass.proofs.Slashes.{tidied_is}
use Rattle.hc_abs_pass.specs.Ends.{left_of, outside}
use Rattle.hc_abs_pass.specs.Mapping.{over}
use Rattle.hc_abs_pass.specs.Mapping.{named as in_hand}
use Rattle.hc_abs_pass.specs.Walking.{HasName}
use Rattle.hc_abs_pass.specs.declared.ends.Left.{Left}
use Rattle.hc_abs_pass.specs.declared.ends.Left.TheVariants as left
use Rattle.hc_model.specs.declared.outcome.Reason.TheVariants.{DotSegment}
use Rattle.hc_abs_pass.specs.declared.walk.Named.{Named}
use Rattle.hc_abs_map.specs.Along.{Adds, AreNamed}
use Rattle.hc_abs_map.specs.Ends.{AddsOver, over_on}
use Rattle.hc_abs_map.specs.Mapped.{MappedFits}
use Rattle.hc_abs_map.specs.Names.{GoesUndotted, HasText, IsTidied, MeetsDoubled, OnText, named_on, tied_by}
use Rattle.hc_abs_map.specs.declared.mapped.Mapped.{Mapped}
use Rattle.hc_abs_map.specs.declared.mapped.Mapped.TheVariants as mapped

-- ---- tests

module _ {A B : Type 0} (Fit : Option Addr → B → Branch A → Type 0) (tied : Tied) (elements : List Element)
    (side : Option Automaton) (set : Automaton) (asked : TextSet) (means : Accepts set asked) (ways : Ways)
    (are : AreWays tied.cell tied.ties elements 0 side false (accepts set) ways) (plan : Bool → Plan A)
    (first rest : List B) (client : Option Addr) (state : AbsState)
    (has : HasText tied elements side client state) where
  follows : (by : TextSet) (plan : Plan A) (way : Option Way) (found : List B)
      → OnText Fit tied.ties elements plan way found
      → Follows (Fit client) tied.cell tied.ties elements 0 side state main has.text.stands (λ now. now) by plan way found
  follows by plan None found none = none
  follows by plan (Some way) found leads = λ now stands keeps. leads client now (record {
    text = record {
      stands = stands;
      looked = ap (λ given. given.third) keeps.given ∙ has.text.looked;
      printed = keeps.printed ∙ has.text.printed;
    };
    given = keeps.given ∙ has.given;
  })

  pub text_tested : OnText Fit tied.ties elements (plan true) ways.held first
      → OnText Fit tied.ties elements (plan false) ways.failed rest
      → AreBranches (Fit client) (test main asked plan) state (first ++ rest)
  text_tested on_held on_failed =
      test_fits (Fit client) tied.cell tied.ties elements 0 side state main has.text.stands asked (on true (accepts set))
      (on false (accepts set)) plan ways.held ways.failed first rest (λ x bytes. sym (means x bytes))
      (λ x bytes. ap not (sym (means x bytes))) are.0 are.1
      (follows (others asked) (plan false) ways.failed rest on_failed) (follows asked (plan true) ways.held first on_held)

-- ---- ends

pub text_of : (named : Named) (client : Option Addr) (state : AbsState) → HasName named client state
    → HasText named.tied named.text.items named.side client state
text_of named client state has = record { text = has.text; given = has.given }

-- The pass ends on a way.
pub over_fits : (ties : Ties) (elements : List Element) (way : Option Way) (end : Left)
    → OnText MappedFits ties elements (done (over (left_of end))) way (over_on ties way end)
over_fits ties elements None end = refl
over_fits ties elements (Some way) end = λ client state has.
    end_fits (MappedFits client) state (over (left_of end)) (mapped.Over (tied_by ties way) end) (
      record {
        cell = has.text.stands.holds;
        ties = has.text.stands.tied;
        given = has.given;
        printed = has.text.printed;
      },
      refl,
    )

pub name_fits : (named : Named) (aliased : Bool)
    → AreNamed MappedFits (Some named) (done (in_hand aliased)) (mapped.Name named aliased ∷ [])
name_fits named aliased client state has =
    end_fits (MappedFits client) state (in_hand aliased) (mapped.Name named aliased) (has, refl)

pub adds_name : (named : Named) (aliased : Bool) (given : Option Named) (earlier later : List Mapped)
    → given ≡ Some named → later ≡ earlier ++ mapped.Name named aliased ∷ []
    → Adds (AreNamed MappedFits given (done (in_hand aliased))) earlier later
adds_name named aliased given earlier later there more =
    subst (λ given. Adds (AreNamed MappedFits given (done (in_hand aliased))) earlier later) (sym there)
    (mapped.Name named aliased ∷ [], more, name_fits named aliased)

-- The text on a way that goes on.
pub on_named : {A B : Type 0} (Fit : Option Addr → B → Branch A → Type 0) (ties : Ties) (text : Vec Element Global)
    (plan : Plan A) (way : Option Way) (found : List B) → AreNamed Fit (named_on ties text way) plan found
    → OnText Fit ties text.items plan way found
on_named Fit ties text plan None found none = none
on_named Fit ties text plan (Some way) found leads = λ client state has.
    leads client state (record { text = has.text; given = has.given })

-- The texts with a segment of dots are outside.
pub dots_go : (named : Named) (set : Automaton) (ways : Ways) (rest : Option Named) (earlier later : List Mapped)
    → Accepts set has_dots
    → AreWays named.tied.cell named.tied.ties named.text.items 0 named.side false (accepts set) ways
    → AddsOver named.tied.ties ways.held (left.Outside DotSegment) earlier later
    → rest ≡ named_on named.tied.ties named.text ways.failed → GoesUndotted named rest earlier later
dots_go named set ways rest earlier later means are more is = record {
  added = over_on named.tied.ties ways.held (left.Outside DotSegment);
  more = more;
  leads = λ plan tail found client state has.
      text_tested MappedFits named.tied named.text.items named.side set has_dots means ways are (λ dots. elim dots [
        | true ↦ done (over (outside DotSegment))
        | false ↦ plan
      ]) (over_on named.tied.ties ways.held (left.Outside DotSegment)) tail client state (text_of named client state has)
      (over_fits named.tied.ties named.text.items ways.held (left.Outside DotSegment))
      (on_named MappedFits named.tied.ties named.text plan ways.failed tail
      (subst (λ rest. AreNamed MappedFits rest plan tail) is found));
}

-- ---- merged slashes

pub tidy_fits : {A B : Type 0} (Fit : Option Addr → B → Branch A → Type 0) (named made : Named) (plan : Plan A)
    (found : List B) → IsTidied named made → AreNamed Fit (Some made) plan found
    → AreNamed Fit (Some named) (tidy main has_double_slash merge_slashes plan) found
unfolding Branches
tidy_fits Fit named made plan found tidied leads client state has =
    let is = tidied client state has in
    let rest = leads client (with_text state main is.0) is.2 in
    (rest.0, (is.0, is.1, rest.1), rest.2)

merged_text : (text : List ℕ) → IsText text → IsText (merge_slashes text)
merged_text [] bytes = tt
merged_text (b ∷ []) bytes = bytes
merged_text (b ∷ c ∷ text) bytes = by (is_slash b && is_slash c) (merged_text (c ∷ text) bytes.1)
  where
    by : (two : Bool) → IsText (merge_slashes (c ∷ text))
        → IsText (if two then merge_slashes (c ∷ text) else b ∷ merge_slashes (c ∷ text))
    by true rest = rest
    by false rest = (bytes.0, rest)

module _ (named : Named) (texts : Automaton)
    (of : IsHandSet named.tied.cell named.text.items 0 named.side texts) where
  texts_are : (client : Option Addr) (state : AbsState) → HasName named client state
      → IsSetOf (set_in texts) (Has state.cell (pick state.texts main))
  texts_are client state has =
      hand_has named.tied.cell named.text.items named.side texts state.cell (pick state.texts main)
      has.text.stands.holds has.text.stands.hand of

  pub stays_tidy : MeetsDoubled (accepts texts) false → IsTidied named named
  stays_tidy none client state has = (
    pick state.texts main,
    inl (
      (λ meets.
          let are = texts_are client state has in
          let P = Has state.cell (pick state.texts main) in
          true≢false (sym meets.2 ∙ none meets.0 (bytes_of texts P are meets.0 meets.1)
          (accepted texts P are meets.0 meets.1))),
      refl,
    ),
    has,
  )

  pub made_tidy : (merged : Automaton) (made : Named) → MeetsDoubled (accepts texts) true
      → AcceptsOnly (IsMerged (accepts texts)) merged → made.tied ≡ named.tied
      → made.text.items ≡ element.Free merged ∷ [] → made.side ≡ None → IsTidied named made
  made_tidy merged made some are same free none client state has = (
    any_of (set_in merged),
    inr (
      (some.0, there texts P has_texts some.0 some.1 some.2, some.3),
      set_in merged,
      set_of_bytes (accepts merged) (Tidied state has_double_slash merge_slashes (pick state.texts main))
          (λ x of. subst IsText (sym (of.2 ∙ tidied_is of.0))
          (merged_text of.0 (bytes_of texts P has_texts of.0 of.1)))
          (λ x bytes. (
            (λ accepted.
                let from = (are x bytes).0 accepted in (
                  from.original,
                  there texts P has_texts from.original from.bytes from.member,
                  sym from.merged ∙ sym (tidied_is from.original),
                )),
            (λ of. (are x bytes).1 (record {
              original = of.0;
              bytes = bytes_of texts P has_texts of.0 of.1;
              member = accepted texts P has_texts of.0 of.1;
              merged = sym (tidied_is of.0) ∙ sym of.2;
            })),
          )),
      refl,
    ),
    record {
      text = record {
        stands =
            subst (λ tied. Stands tied.cell tied.ties made.text.items 0 made.side next main) (sym same)
            (subst (λ items. Stands named.tied.cell named.tied.ties items 0 made.side next main) (sym free)
            (subst (λ side. Stands named.tied.cell named.tied.ties (element.Free merged ∷ []) 0 side next main) (sym none)
            (record {
              holds = has.text.stands.holds;
              tied = has.text.stands.tied;
              hand = record { made = refl; behind = refl; lies = inl (λ x bytes. refl) };
            })));
        looked = has.text.looked;
        printed = has.text.printed;
      };
      given = has.given;
    },
  )
    where
      P : List ℕ → Type 0
      P = Has state.cell (pick state.texts main)

      has_texts : IsSetOf (set_in texts) P
      has_texts = texts_are client state has

      next : AbsState
      next = with_text state main (any_of (set_in merged))
