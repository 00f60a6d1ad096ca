-- The ways with a chosen turn through a marked text, by those of the pattern through the text without marks.
use Rattle.hc_pat_lang.proofs.Common.{◌≡◌, ℕ, zero, suc, ◌-◌, ◌≤◌, Bool, true, false, List, []}
use Rattle.hc_pat_lang.proofs.Common.{◌∷◌, ◌++◌, length, if◌then◌else◌, nat_lt, nat_eq, Some, None}
use Rattle.hc_pat_lang.proofs.Common.{slice_get, refl, sym, ◌∙◌, ap, subst, inl, inr, arith, eqb-true, Contains}
use Rattle.hc_pat_lang.proofs.Common.{Contains-append_left, Contains-push, Span, Pattern, cat, alt, group, repeat, Way}
use Rattle.hc_pat_lang.proofs.Common.{Ways, none, behind, either, closed, grouped, preferred, moving, any_turns}
use Rattle.hc_pat_lang.proofs.Common.{turns_up_to, turns_then, Turns, all_ways, with_turn, behind-behind}
use Rattle.hc_pat_lang.proofs.Common.{behind-preferred, behind-stop, turn_or_next, Bounded, any_turns_is, bounded}
use Rattle.hc_pat_lang.proofs.Common.{Exists, chosen_any, chosen_behind, chosen_then, chosen_up_to, chosen_ways}
use Rattle.hc_pat_lang.proofs.Common.{part_ways, takes_a_byte, seen, GroupPart, Outside, Inside}
use Rattle.hc_pat_lang.proofs.Parts.{some_filtered, some_mapped, exists_as, exists_with, exists_left, exists_right}
use Rattle.hc_pat_lang.proofs.Parts.{exists_cases, to_flat, from_flat, some_preferred, some_turn_or_next, then_one}
use Rattle.hc_pat_lang.proofs.Seeing.{Grown, IsSeen, seen_over, Sees, SeesOn, sees_any, sees_behind, sees_moving}
use Rattle.hc_pat_lang.proofs.Seeing.{sees_part, sees_then, sees_up_to}

module _ (marked text : List ℕ) (same : length marked ≡ length text) (reads : (part : GroupPart) (k b : ℕ)
    → seen part marked k ≡ Some b → slice_get text k ≡ Some b) (number : ℕ) where
  abbrev pub SeenOutside : ℕ → ℕ → Type 0
  SeenOutside at end = SeesOn Outside marked text same (reads Outside) at end

  abbrev pub SeenInside : ℕ → ℕ → Type 0
  SeenInside at end = SeesOn Inside marked text same (reads Inside) at end

  abbrev pub SeesAll : Ways Turns → Ways Turns → Type 1
  SeesAll a b = Sees Outside marked text same (reads Outside) a b

  pub sees_all : (pattern : Pattern) → SeesAll (part_ways Outside marked pattern) (all_ways text pattern)
  sees_all pattern = sees_part Outside marked text same (reads Outside) pattern

  -- The marked bytes of what a way takes are those of one turn of the group.
  pub record Chosen (at : ℕ) (way : Way Turns) : Type 0 where
    pub span : Span
    pub begins : at ≤ span.start
    pub runs : span.start ≤ span.end
    pub ends : span.end ≤ way.end
    pub before : SeenOutside at span.start
    pub inside : SeenInside span.start span.end
    pub after : SeenOutside span.end way.end
    pub turn : Contains way.held (number, span)

  -- ---- from the marked text

  abbrev pub ToChosen : Ways Turns → Ways Turns → Type 1
  ToChosen a b = (at : ℕ) (one other : Turns) (P : ℕ → Type 0) → at ≤ length text
      → Exists (λ (way : Way Turns). P way.end) (a at one)
      → Exists (λ (way : Way Turns). Chosen at way × P way.end) (b at other)

  pub fresh : (other : Turns) (x : ℕ × Span) → Contains other x → false ≡ false
  fresh other x among = refl

  chosen_later : (at : ℕ) (way later : Way Turns) → way.end ≤ later.end
      → ((x : ℕ × Span) → Contains way.held x → Contains later.held x) → Chosen at way
      → SeenOutside way.end later.end → Chosen at later
  chosen_later at way later ordered keeps chosen seen_on = record {
    span = chosen.span;
    begins = chosen.begins;
    runs = chosen.runs;
    ends = (let a = chosen.ends in omega arith);
    before = chosen.before;
    inside = chosen.inside;
    after = seen_over Outside marked text same (reads Outside) chosen.span.end way.end later.end chosen.after seen_on;
    turn = keeps _ chosen.turn;
  }

  chosen_earlier : (at : ℕ) (way later : Way Turns) → at ≤ way.end → SeenOutside at way.end
      → Chosen way.end later → Chosen at later
  chosen_earlier at way later ordered seen_on chosen = record {
    span = chosen.span;
    begins = (let a = chosen.begins in omega arith);
    runs = chosen.runs;
    ends = chosen.ends;
    before = seen_over Outside marked text same (reads Outside) at way.end chosen.span.start seen_on chosen.before;
    inside = chosen.inside;
    after = chosen.after;
    turn = chosen.turn;
  }

  module _ (l1 a1 l2 a2 b1 b2 : Ways Turns) (first : SeesAll l1 b1) where
    to_first : ToChosen a1 b1 → SeesAll l2 b2 → ToChosen (behind a1 l2) (behind b1 b2)
    to_first chosen second at one other P within some =
        to_flat _ _ (b1 at other)
        (exists_with (Grown text at other) _ _ (b1 at other) (first.grown at other within)
        (λ way grown here.
        exists_with (Grown text way.end way.held) _ _ (b2 way.end way.held) (second.grown way.end way.held grown.within)
        (λ later on there. (chosen_later at way later on.ordered on.keeps here.0 there.0.0, there.1))
        (here.1 grown.within way.held))
        (chosen at one other
        (λ end. end ≤ length text → (held : Turns)
        → Exists (λ (later : Way Turns). IsSeen Outside marked text same (reads Outside) end later
        × P later.end) (b2 end held)) within
        (exists_as _ _ (a1 at one)
        (λ way later inside held. second.to way.end way.held held P inside (fresh held) later)
        (from_flat _ _ (a1 at one) some))))

    to_second : ToChosen a2 b2 → ToChosen (behind l1 a2) (behind b1 b2)
    to_second chosen at one other P within some =
        to_flat _ _ (b1 at other)
        (exists_with (Grown text at other) _ _ (b1 at other) (first.grown at other within)
        (λ way grown here. exists_as _ _ (b2 way.end way.held)
        (λ later there. (chosen_earlier at way later grown.ordered here.0.0 there.0, there.1))
        (here.1 grown.within way.held))
        (first.to at one other
        (λ end. end ≤ length text → (held : Turns)
        → Exists (λ (later : Way Turns). Chosen end later × P later.end) (b2 end held)) within (fresh other)
        (exists_as _ _ (l1 at one) (λ way later inside held. chosen way.end way.held held P inside later)
        (from_flat _ _ (l1 at one) some))))

  to_behind : (l1 a1 l2 a2 b1 b2 : Ways Turns) → SeesAll l1 b1 → ToChosen a1 b1 → SeesAll l2 b2 → ToChosen a2 b2
      → ToChosen (chosen_behind l1 a1 l2 a2) (behind b1 b2)
  to_behind l1 a1 l2 a2 b1 b2 first chosen second later at one other P within some =
      elim (exists_cases _ (behind a1 l2 at one) (behind l1 a2 at one) some) [
        | inl here ↦ to_first l1 a1 l2 a2 b1 b2 first chosen second at one other P within here
        | inr here ↦ to_second l1 a1 l2 a2 b1 b2 first later at one other P within here
      ]

  to_moving : (a b : Ways Turns) → ToChosen a b → ToChosen (moving a) (moving b)
  to_moving a b chosen at one other P within some =
      (some_filtered _ (λ way. nat_lt at way.end) (b at other)).1
      (exists_as _ _ (b at other) (λ way here. ((here.0, here.1.0), here.1.1))
      (chosen at one other (λ end. P end × (nat_lt at end ≡ true)) within
      ((some_filtered _ (λ way. nat_lt at way.end) (a at one)).0 some)))

  to_up_to : (greedy : Bool) (l a b : Ways Turns) (most : ℕ) → SeesAll l b → ToChosen a b
      → ToChosen (chosen_up_to greedy l a most) (turns_up_to greedy b most)
  to_up_to greedy l a b zero first chosen at one other P within some = absurd some
  to_up_to greedy l a b (suc most) first chosen at one other P within some =
      (some_preferred _ greedy (behind b (turns_up_to greedy b most)) at other).1
      (inl (to_behind l a _ _ b _ first chosen
      (sees_up_to Outside marked text same (reads Outside) greedy l b most first)
      (to_up_to greedy l a b most first chosen) at one other P within some))

  to_then : (l a b : Ways Turns) (least : ℕ) (rest chosen_rest others : Ways Turns) → SeesAll l b → ToChosen a b
      → SeesAll rest others → ToChosen chosen_rest others
      → ToChosen (chosen_then l a least rest chosen_rest) (turns_then b least others)
  to_then l a b zero rest chosen_rest others first chosen later chosen_later = chosen_later
  to_then l a b (suc least) rest chosen_rest others first chosen later chosen_later =
      to_behind l a _ _ b _ first chosen
      (sees_then Outside marked text same (reads Outside) l b least rest others first later)
      (to_then l a b least rest chosen_rest others first chosen later chosen_later)

  module _ (greedy : Bool) (l a b : Ways Turns) (all_first : SeesAll l b) (all_bounded : Bounded (length text) b) where
    abbrev others : Ways Turns
    others = any_turns greedy b (length text)

    abbrev rest : Ways Turns
    rest = any_turns greedy l (length marked)

    others_is : others ≡ preferred greedy (behind (moving b) others)
    others_is = any_turns_is text greedy b all_bounded

    pub sees_rest : SeesAll rest others
    sees_rest = subst (λ (n : ℕ). SeesAll rest (any_turns greedy b n)) same
        (sees_any Outside marked text same (reads Outside) greedy l b (length marked) all_first)

    sees_moved : SeesAll (moving l) (moving b)
    sees_moved = sees_moving Outside marked text same (reads Outside) l b all_first

    pub to_others : (P : Way Turns → Type 0) (at : ℕ) (held : Turns) → Exists P (behind (moving b) others at held)
        → Exists P (others at held)
    to_others P at held some = subst (λ (w : Ways Turns). Exists P (w at held)) (sym others_is)
        ((some_preferred P greedy (behind (moving b) others) at held).1 (inl some))

    to_any_here : ToChosen a b → ToChosen (behind (moving a) rest) (behind (moving b) others)
    to_any_here chosen = to_first (moving l) (moving a) rest rest (moving b) others sees_moved (to_moving a b chosen)
        sees_rest

    to_any_from : (k : ℕ) → ToChosen a b → ToChosen (behind (any_turns greedy l k) (behind (moving a) rest))
        (behind (moving b) others)
    to_any_from zero chosen at one other P within some =
        to_any_here chosen at one other P within
        (subst (λ (w : Ways Turns). Exists (λ (way : Way Turns). P way.end) (w at one))
        (behind-stop (behind (moving a) rest)) some)
    to_any_from (suc k) chosen at one other P within some =
        let next = behind (moving a) rest in
        let more = behind (any_turns greedy l k) next in
        let same_ways = behind-preferred greedy (behind (moving l) (any_turns greedy l k)) next
        ∙ ap (λ (w : Ways Turns). turn_or_next greedy w next)
        (behind-behind (moving l) (any_turns greedy l k) next) in
        elim ((some_turn_or_next _ greedy (behind (moving l) more) next at one).0
        (subst (λ (w : Ways Turns). Exists (λ (way : Way Turns). P way.end) (w at one)) same_ways some)) [
          | inl turned ↦ to_second (moving l) (moving a) rest more (moving b) others sees_moved
              (λ from one other P inside later. to_others _ from other
              (to_any_from k chosen from one other P inside later)) at one other P within turned
          | inr own ↦ to_any_here chosen at one other P within own
        ]

    -- The chosen turn is one of those that have to be.
    to_some : ToChosen a b → ToChosen (chosen_any greedy l a (length marked)) (behind b others)
    to_some chosen at one other P within some =
        to_flat _ (λ (w : Way Turns). others w.end w.held) (b at other)
        (exists_as _ _ (b at other) (λ way here. here.0)
        ((some_filtered _ (λ way. nat_lt at way.end) (b at other)).0
        (from_flat _ _ (moving b at other) (to_any_from (length marked) chosen at one other P within some))))

    to_endless : (moves : Bool) (least : ℕ) → ToChosen a b
        → ToChosen (if moves then chosen_then l a (least - 1) (behind l rest) (chosen_any greedy l a (length marked))
        else chosen_then l a least rest (chosen_any greedy l a (length marked))) (turns_then b least others)
    to_endless true (suc least) chosen =
        let less : suc least - 1 ≡ least = omega arith in
        rw less (subst (ToChosen (chosen_then l a least (behind l rest) (chosen_any greedy l a (length marked))))
        (then_one b least others)
        (to_then l a b least _ _ _ all_first chosen
        (sees_behind Outside marked text same (reads Outside) l rest b others all_first sees_rest)
        (to_some chosen)))
    to_endless _ least chosen =
        to_then l a b least _ _ _ all_first chosen sees_rest
        (λ at one other P within some. to_others _ at other
        (to_any_from (length marked) chosen at one other P within some))

  to_if : (v : Bool) (a b : Ways Turns) → ToChosen a b → ToChosen (if v then none else a) (if v then none else b)
  to_if true a b chosen = λ at one other P within some. absurd some
  to_if false a b chosen = chosen

  to_group : (own : ℕ) (v : Bool) (body : Pattern) → nat_eq own number ≡ v
      → ToChosen (chosen_ways number marked body) (all_ways text body)
      → ToChosen (if v then either (part_ways Inside marked body) (chosen_ways number marked body)
      else chosen_ways number marked body) (grouped with_turn own (all_ways text body))
  to_group own v body is chosen = by_test v is
    where
      inner : ToChosen (chosen_ways number marked body) (grouped with_turn own (all_ways text body))
      inner at one other P within some =
          (some_mapped _ (closed with_turn own at) (all_ways text body at other)).1
          (exists_as _ _ (all_ways text body at other)
          (λ way here. (
            chosen_later at way (closed with_turn own at way) (omega arith) (λ x. Contains-append_left way.held _ x)
                here.0 (λ k past below. absurd (omega arith)),
            here.1,
          ))
          (chosen at one other P within some))

      whole : own ≡ number → ToChosen (part_ways Inside marked body) (grouped with_turn own (all_ways text body))
      whole same_number at one other P within some =
          let sees = sees_part Inside marked text same (reads Inside) body in
          (some_mapped _ (closed with_turn own at) (all_ways text body at other)).1
          (exists_with (Grown text at other) _ _ (all_ways text body at other) (sees.grown at other within)
          (λ way grown here. (
            record {
              span = record { start = at; end = way.end };
              begins = (let o : at ≤ at = omega arith in o);
              runs = grown.ordered;
              ends = (let o : way.end ≤ way.end = omega arith in o);
              before = λ k past below. absurd (omega arith);
              inside = here.0.0;
              after = λ k past below. absurd (omega arith);
              turn = subst
                  (λ (n : ℕ). Contains (way.held ++ (own, record { start = at; end = way.end }) ∷ [])
                  (n, record { start = at; end = way.end })) same_number
                  (Contains-push way.held (own, record { start = at; end = way.end }));
            },
            here.1,
          ))
          (sees.to at one other P within (fresh other) some))

      by_test : (w : Bool) → nat_eq own number ≡ w
          → ToChosen (if w then either (part_ways Inside marked body) (chosen_ways number marked body)
          else chosen_ways number marked body) (grouped with_turn own (all_ways text body))
      by_test true e at one other P within some =
          elim (exists_cases _ (part_ways Inside marked body at one) (chosen_ways number marked body at one) some) [
            | inl here ↦ whole (eqb-true own number e) at one other P within here
            | inr here ↦ inner at one other P within here
          ]
      by_test false e at one other P within some = inner at one other P within some

  pub to_chosen : (pattern : Pattern) → ToChosen (chosen_ways number marked pattern) (all_ways text pattern)
  to_chosen (cat first second) = to_behind _ _ _ _ _ _ (sees_all first) (to_chosen first) (sees_all second)
      (to_chosen second)
  to_chosen (alt first second) =
      λ at one other P within some.
      elim (exists_cases _ (chosen_ways number marked first at one) (chosen_ways number marked second at one) some) [
        | inl here ↦ exists_left _ (all_ways text first at other) (all_ways text second at other)
            (to_chosen first at one other P within here)
        | inr here ↦ exists_right _ (all_ways text first at other) (all_ways text second at other)
            (to_chosen second at one other P within here)
      ]
  to_chosen (group own body) = to_group own (nat_eq own number) body refl (to_chosen body)
  to_chosen (repeat body least None greedy) = to_endless greedy _ _ _ (sees_all body) (bounded with_turn text body)
      (takes_a_byte body) least (to_chosen body)
  to_chosen (repeat body least (Some most) greedy) =
      to_if (nat_lt most least) _ _
      (to_then _ _ _ least _ _ _ (sees_all body) (to_chosen body)
      (sees_up_to Outside marked text same (reads Outside) greedy _ _ (most - least) (sees_all body))
      (to_up_to greedy _ _ _ (most - least) (sees_all body) (to_chosen body)))
  to_chosen _ = λ at one other P within some. absurd some
