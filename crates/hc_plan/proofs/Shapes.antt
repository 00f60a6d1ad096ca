-- The shapes of elements, and of parts one after the other.
use Rattle.hc_plan.proofs.Common.{◌≡◌, ◌∙◌, ℕ, List, [], ◌∷◌, ◌++◌, drop, Option, Some, None}
use Rattle.hc_plan.proofs.Common.{option_map, refl}
use Rattle.hc_plan.proofs.Common.{sym, ap, subst, inl, inr, append_assoc, append-nil, and_both, and_left, and_right}
use Rattle.std.proofs.lemmas.List.{map-append}
use Rattle.std.specs.List.{AllByRecursion}
use Rattle.hc_cells.specs.Cells.{Sets, holds}
use Rattle.hc_dfa.specs.Members.{IsOnly as IsOnlyText}
use Rattle.hc_dfa.specs.Automata.{Automaton}
use Rattle.hc_dfa.specs.Texts.{IsText, TextSet}
use Rattle.hc_plan.proofs.Made.{is_text, text_is}
use Rattle.hc_plan.specs.Hands.{IsElementShape, IsOfBytes, IsShape, cell_of, part_of, parts_of, set_in}
use Rattle.hc_plan.specs.Shapes.{joined, shape_by, shape_of}
use Rattle.hc_plan.specs.Slots.{Slot}
use Rattle.hc_plan.specs.Texts.{of_bytes}
use Rattle.hc_plan.specs.States.{IsOnly, Part, ReadNow, ReadsNow, Sole, all_known, free, known, open_slot, sole_at}
use Rattle.hc_plan.specs.States.{sole_behind, sole_in}
use Rattle.hc_plan.specs.declared.hand.Element.{Element}
use Rattle.hc_plan.specs.declared.hand.Element.TheVariants as element
use Rattle.hc_plan.specs.declared.shape.Shape.{Shape}
use Rattle.hc_plan.specs.declared.shape.Shape.TheVariants.{Known, Open}
use Rattle.hc_plan.specs.declared.shape.Shape.TheVariants as shape

-- ---- one element

of_only : (set : TextSet) (m : List ℕ) → IsOnlyText set m → IsOnly (of_bytes set) m
of_only set m only = (
  and_both (text_is m only.bytes) only.member,
  (λ x in_set. only.only x (is_text x (and_left _ (set x) in_set)) (and_right _ (set x) in_set)),
)

to_only : (set : TextSet) (m : List ℕ) → IsOnly (of_bytes set) m → IsOnlyText set m
to_only set m only = record {
  bytes = is_text m (and_left _ (set m) only.0);
  member = and_right _ (set m) only.0;
  only = λ other bytes member. only.1 other (and_both (text_is other bytes) member);
}

pub known_element : (sets : Sets) (text : List ℕ) (s : Shape) → IsText text → s ≡ Known text
    → IsElementShape sets (element.Known text) s
known_element sets text s bytes is =
    record { now = known text; reads = refl; bytes = bytes; is = is ∙ ap Known (sym (append-nil text)) }

pub only_element : (sets : Sets) (slot : Slot) (skip : ℕ) (m : List ℕ) (s : Shape)
    → IsOnlyText (holds sets slot) m → s ≡ Known (drop skip m) → IsElementShape sets (element.Open slot skip) s
only_element sets slot skip m s only is = record {
  now = known (drop skip m);
  reads = inl (m, of_only (holds sets slot) m only, refl);
  bytes = tt;
  is = is ∙ ap Known (sym (append-nil (drop skip m)));
}

pub open_element : (sets : Sets) (slot : Slot) (skip : ℕ)
    → ((m : List ℕ) → IsOnlyText (holds sets slot) m → ⊥)
    → IsElementShape sets (element.Open slot skip) (shape.Sole (sole_at slot skip []))
open_element sets slot skip none = record {
  now = open_slot slot skip;
  reads = inr ((λ m only. none m (to_only (holds sets slot) m only)), refl);
  bytes = tt;
  is = refl;
}

pub free_element : (sets : Sets) (set : Automaton) → IsElementShape sets (element.Free set) Open
free_element sets set = record { now = free (set_in set); reads = refl; bytes = tt; is = refl }

-- ---- shapes one after the other

associated : (one two three : Shape) → joined (joined one two) three ≡ joined one (joined two three)
associated (Known a) (Known b) (Known c) = ap Known (append_assoc a b c)
associated (Known a) (Known b) (shape.Sole o) = ap (λ before. shape.Sole (record o { before = before }))
    (append_assoc a b o.before)
associated (Known a) (Known b) Open = refl
associated (Known a) (shape.Sole o) (Known c) = refl
associated (Known a) (shape.Sole o) (shape.Sole p) = refl
associated (Known a) (shape.Sole o) Open = refl
associated (Known a) Open three = refl
associated (shape.Sole o) (Known b) (Known c) = ap (λ after. shape.Sole (record o { after = after }))
    (append_assoc o.after b c)
associated (shape.Sole o) (Known b) (shape.Sole p) = refl
associated (shape.Sole o) (Known b) Open = refl
associated (shape.Sole o) (shape.Sole p) (Known c) = refl
associated (shape.Sole o) (shape.Sole p) (shape.Sole q) = refl
associated (shape.Sole o) (shape.Sole p) Open = refl
associated (shape.Sole o) Open three = refl
associated Open two three = refl

-- The first part and what follows it.
first_joined : (part : Part) (parts : List Part) → shape_of (part ∷ parts) ≡ joined (shape_of (part ∷ []))
    (shape_of parts)
first_joined (known own) parts = by (all_known parts) (sole_in parts)
  where
    by : (text : Option (List ℕ)) (sole : Option Sole)
        → shape_by (option_map (λ rest. own ++ rest) text) (option_map (sole_behind own) sole)
        ≡ joined (Known (own ++ [])) (shape_by text sole)
    by (Some text) sole = ap (λ front. Known (front ++ text)) (sym (append-nil own))
    by None (Some sole) = ap (λ front. shape.Sole (record sole { before = front ++ sole.before }))
        (sym (append-nil own))
    by None None = refl
first_joined (open_slot slot skip) parts = by (all_known parts) (sole_in parts)
  where
    by : (text : Option (List ℕ)) (sole : Option Sole)
        → shape_by None (option_map (sole_at slot skip) text)
        ≡ joined (shape.Sole (sole_at slot skip [])) (shape_by text sole)
    by (Some text) sole = refl
    by None (Some sole) = refl
    by None None = refl
first_joined (free set) parts = refl

-- All parts, and one behind them.
last_joined : (parts : List Part) (part : Part) → shape_of (parts ++ part ∷ []) ≡ joined (shape_of parts)
    (shape_of (part ∷ []))
last_joined [] part = first_joined part [] ∙ all (shape_of (part ∷ []))
  where
    all : (s : Shape) → joined s (Known []) ≡ joined (Known []) s
    all (Known text) = ap Known (append-nil text)
    all (shape.Sole o) = ap (λ after. shape.Sole (record o { after = after })) (append-nil o.after)
    all Open = refl
last_joined (first ∷ parts) part =
    first_joined first (parts ++ part ∷ [])
    ∙ ap (joined (shape_of (first ∷ []))) (last_joined parts part)
    ∙ sym (associated (shape_of (first ∷ [])) (shape_of parts) (shape_of (part ∷ [])))
    ∙ ap (λ front. joined front (shape_of (part ∷ []))) (sym (first_joined first parts))

read_more : (cell : Slot → TextSet) (parts now : List Part) (part one : Part) → ReadNow cell parts now
    → ReadsNow cell part one → ReadNow cell (parts ++ part ∷ []) (now ++ one ∷ [])
read_more cell [] now part one read reads =
    (one, [], ap (λ now. now ++ one ∷ []) read, reads, refl)
read_more cell (first ∷ parts) now part one read reads = (
  read.0,
  read.1 ++ one ∷ [],
  ap (λ now. now ++ one ∷ []) read.2,
  read.3,
  read_more cell parts read.1 part one read.4 reads,
)

all_more : (P : Part → Type 0) (parts : List Part) (part : Part) → AllByRecursion P parts → P part
    → AllByRecursion P (parts ++ part ∷ [])
all_more P [] part all one = (one, tt)
all_more P (first ∷ parts) part all one = (all.0, all_more P parts part all.1 one)

pub one_more : (sets : Sets) (elements : List Element) (element : Element) (front one : Shape)
    → IsShape sets elements front → IsElementShape sets element one
    → IsShape sets (elements ++ element ∷ []) (joined front one)
one_more sets elements element front one is more = record {
  now = is.now ++ more.now ∷ [];
  reads = subst (λ parts. ReadNow (cell_of sets) parts (is.now ++ more.now ∷ [])) (sym parts)
      (read_more (cell_of sets) (parts_of elements) is.now (part_of element) more.now is.reads more.reads);
  bytes = subst (λ parts. AllByRecursion IsOfBytes parts) (sym parts)
      (all_more IsOfBytes (parts_of elements) (part_of element) is.bytes more.bytes);
  is = (λ i. joined (is.is i) (more.is i)) ∙ sym (last_joined is.now more.now);
}
  where
    parts : parts_of (elements ++ element ∷ []) ≡ parts_of elements ++ part_of element ∷ []
    parts = map-append part_of elements (element ∷ [])
