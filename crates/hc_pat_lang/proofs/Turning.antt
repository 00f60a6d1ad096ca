-- Fragments of the ways with a chosen turn.
use Rattle.hc_pat_lang.proofs.Common.{◌≡◌, ℕ, zero, suc, ◌-◌, ◌||◌, Bool, true, false, List, []}
use Rattle.hc_pat_lang.proofs.Common.{◌∷◌, length, if◌then◌else◌, nat_lt, nat_eq, Option, Some, None, refl}
use Rattle.hc_pat_lang.proofs.Common.{sym, ◌∙◌, ap, flat_map, Pattern, cat, alt, group, repeat, Way, Ways, none}
use Rattle.hc_pat_lang.proofs.Common.{behind, either, moving, preferred, any_turns, Turns, same_ways, AreTurns, IsBelow}
use Rattle.hc_pat_lang.proofs.Common.{IsFragment, IsReady, IsJoin, chosen_behind, chosen_repeated, chosen_then}
use Rattle.hc_pat_lang.proofs.Common.{chosen_up_to, chosen_ways, has_turn, part_ways, takes_a_byte, chosen_any, Gate}
use Rattle.hc_pat_lang.proofs.Common.{Inside, Node}
use Rattle.hc_pat_lang.specs.declared.chosen.Turns.{Turns as Both}
use Rattle.hc_pat_lang.proofs.Fragmenting.{Grows, below_more, fragment_behind, fragment_grows, fragment_joined}
use Rattle.hc_pat_lang.proofs.Fragmenting.{fragment_later, fragment_preferred, grows_on, join_grows, join_ready}
use Rattle.hc_pat_lang.proofs.Fragmenting.{ready_later}

-- ---- patterns without the group

flat_none : (ways : List (Way Turns)) → flat_map (λ (way : Way Turns). none {Kept = Turns} way.end way.held) ways
    ≡ []
flat_none [] = refl
flat_none (way ∷ ways) = flat_none ways

behind_none : (first : Ways Turns) → behind first none ≡ none
behind_none first = same_ways _ _ (λ at held. flat_none (first at held))

none_behind : (first first_chosen second second_chosen : Ways Turns) → first_chosen ≡ none
    → second_chosen ≡ none → chosen_behind first first_chosen second second_chosen ≡ none
none_behind first first_chosen second second_chosen one two =
    ap (λ (w : Ways Turns). chosen_behind first w second second_chosen) one
    ∙ ap (λ (w : Ways Turns). chosen_behind first none second w) two ∙ behind_none first

none_then : (body chosen : Ways Turns) (least : ℕ) (more more_chosen : Ways Turns) → chosen ≡ none
    → more_chosen ≡ none → chosen_then body chosen least more more_chosen ≡ none
none_then body chosen zero more more_chosen is later = later
none_then body chosen (suc least) more more_chosen is later =
    none_behind body chosen _ _ is (none_then body chosen least more more_chosen is later)

none_up_to : (greedy : Bool) (body chosen : Ways Turns) (most : ℕ) → chosen ≡ none
    → chosen_up_to greedy body chosen most ≡ none
none_up_to greedy body chosen zero is = refl
none_up_to greedy body chosen (suc most) is = none_behind body chosen _ _ is (none_up_to greedy body chosen most is)

none_if : (v : Bool) (ways : Ways Turns) → ways ≡ none → (if v then none else ways) ≡ none
none_if true ways is = refl
none_if false ways is = is

none_any : (greedy : Bool) (body chosen : Ways Turns) (bytes : ℕ) → chosen ≡ none
    → chosen_any greedy body chosen bytes ≡ none
none_any greedy body chosen bytes is =
    ap (λ (w : Ways Turns). behind (any_turns greedy body bytes) (behind (moving w) (any_turns greedy body bytes))) is
    ∙ behind_none (any_turns greedy body bytes)

none_repeated : (moves : Bool) (bytes : ℕ) (body chosen : Ways Turns) (least : ℕ) (most : Option ℕ)
    (greedy : Bool) → chosen ≡ none → chosen_repeated moves bytes body chosen least most greedy ≡ none
none_repeated true bytes body chosen least None greedy is =
    none_then body chosen (least - 1) _ _ is (none_any greedy body chosen bytes is)
none_repeated false bytes body chosen least None greedy is =
    none_then body chosen least _ _ is (none_any greedy body chosen bytes is)
none_repeated moves bytes body chosen least (Some most) greedy is =
    none_if (nat_lt most least) _ (none_then body chosen least _ _ is (none_up_to greedy body chosen (most - least) is))

neither : (p q : Bool) → (p || q) ≡ false → (p ≡ false) × (q ≡ false)
neither true q e = absurd (let f = e in cc)
neither false q e = (refl, e)

pub no_turn : (number : ℕ) (text : List ℕ) (pattern : Pattern) → has_turn number pattern ≡ false
    → chosen_ways number text pattern ≡ none
no_turn number text (cat first second) isnt =
    let both = neither (has_turn number first) (has_turn number second) isnt in
    none_behind _ _ _ _ (no_turn number text first both.0) (no_turn number text second both.1)
no_turn number text (alt first second) isnt =
    let both = neither (has_turn number first) (has_turn number second) isnt in
    ap (λ (w : Ways Turns). either w (chosen_ways number text second)) (no_turn number text first both.0)
    ∙ ap (λ (w : Ways Turns). either none w) (no_turn number text second both.1)
no_turn number text (group own body) isnt =
    let both = neither (nat_eq own number) (has_turn number body) isnt in
    ap (λ (v : Bool). if v then either (part_ways Inside text body) (chosen_ways number text body)
    else chosen_ways number text body) both.0 ∙ no_turn number text body both.1
no_turn number text (repeat body least most greedy) isnt =
    none_repeated (takes_a_byte body) (length text) _ _ least most greedy (no_turn number text body isnt)
no_turn number text _ isnt = refl

-- Ways are left out only where none are chosen.
pub needed_behind : (needs_first needs_second : Bool) (first first_chosen second second_chosen : Ways Turns)
    → (needs_second ≡ false → first_chosen ≡ none) → (needs_first ≡ false → second_chosen ≡ none)
    → chosen_behind (if needs_first then first else none) first_chosen (if needs_second then second else none)
    second_chosen ≡ chosen_behind first first_chosen second second_chosen
needed_behind needs_first needs_second first first_chosen second second_chosen one two =
    ap (λ (w : Ways Turns). either w (behind (if needs_first then first else none) second_chosen))
    (left needs_second one) ∙ ap (λ (w : Ways Turns). either (behind first_chosen second) w)
    (right needs_first two)
  where
    left : (v : Bool) → (v ≡ false → first_chosen ≡ none) → behind first_chosen (if v then second else none)
        ≡ behind first_chosen second
    left true is = refl
    left false is = ap (λ (w : Ways Turns). behind w none) (is refl)
        ∙ sym (ap (λ (w : Ways Turns). behind w second) (is refl))

    right : (v : Bool) → (v ≡ false → second_chosen ≡ none) → behind (if v then first else none) second_chosen
        ≡ behind first second_chosen
    right true is = refl
    right false is = sym (ap (behind first) (is refl) ∙ behind_none first)

-- ---- a turn more

module _ (body chosen : List ℕ → Ways Turns) (old one_later two_later new : List Node) (turns : Both)
    (one other entries : Gate)
    (one_is : IsFragment chosen turns.all old one_later one)
    (other_is : IsFragment body turns.chosen one_later two_later other)
    (join : IsJoin two_later new one other entries) where
  one_below : IsBelow (length two_later) one
  one_below =
      (ready_later one_later two_later one one_is.ready (fragment_grows _ _ _ one_later two_later other_is)).below

  pub added_ready : IsReady new entries
  added_ready = join_ready one other entries two_later new join other_is.ready.are one_below other_is.ready.below

  pub added_grows : Grows old new
  added_grows = grows_on old one_later new (fragment_grows _ _ _ old one_later one_is)
      (grows_on one_later two_later new (fragment_grows _ _ _ one_later two_later other_is)
      (join_grows one other entries two_later new join other_is.ready.are one_below other_is.ready.below))

  module _ (rest chosen_rest : List ℕ → Ways Turns) (exits : Gate) (base : List Node)
      (are : AreTurns rest chosen_rest exits base old turns) where
    pub chosen_added : IsFragment (λ text. chosen_behind (body text) (chosen text) (rest text) (chosen_rest text))
        exits base new entries
    chosen_added =
        let first = fragment_behind chosen rest exits turns.all one base old one_later are.all_ways one_is in
        let later =
        fragment_later _ _ _ base old one_later are.chosen_ways (fragment_grows _ _ _ old one_later one_is) in
        let second = fragment_behind body chosen_rest exits turns.chosen other base one_later two_later later
        other_is in
        fragment_joined _ _ exits one other entries base two_later new
        (fragment_later _ _ _ base one_later two_later first (fragment_grows _ _ _ one_later two_later other_is))
        second join

    pub then_added : (last : List Node) (all : Gate) → IsFragment body turns.all new last all
        → AreTurns (λ text. behind (body text) (rest text))
        (λ text. chosen_behind (body text) (chosen text) (rest text) (chosen_rest text)) exits base last
        (record { all = all; chosen = entries })
    then_added last all is = record {
      all_ways = fragment_behind body rest exits turns.all all base new last
          (fragment_later _ _ _ base old new are.all_ways added_grows) is;
      chosen_ways = fragment_later _ _ _ base new last chosen_added (fragment_grows _ _ _ new last is);
    }

-- Turns that may be left out.
pub turns_optional : (greedy : Bool) (all chosen : List ℕ → Ways Turns) (exits entries : Gate)
    (base mid new : List Node) (turns : Both) → IsBelow (length base) exits
    → AreTurns all chosen exits base mid turns
    → IsJoin mid new turns.all exits entries → AreTurns (λ text. preferred greedy (all text)) chosen exits base new
    (record { all = entries; chosen = turns.chosen })
turns_optional greedy all chosen exits entries base mid new turns below are join =
    let one = are.all_ways in
    record {
      all_ways = fragment_preferred greedy all exits turns.all entries base mid new below one join;
      chosen_ways =
          fragment_later _ _ _ base mid new are.chosen_ways
          (join_grows turns.all exits entries mid new join one.ready.are one.ready.below
          (below_more _ _ exits one.longer below));
    }
