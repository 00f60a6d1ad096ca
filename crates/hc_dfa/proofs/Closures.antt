-- Sets of states that grow.
use Rattle.hc_dfa.proofs.Common.{◌≡◌, ℕ, ◌+◌, ◌<◌, ◌≤◌, ◌∙◌, sym, arith, ap, refl, subst}
use Rattle.hc_dfa.proofs.Common.{◌++◌, ◌⊎◌, inl, inr}
use Rattle.hc_dfa.proofs.Common.{slice_index, slice_index_or, List, [], ◌∷◌, length, take, Bool}
use Rattle.hc_dfa.proofs.Common.{slice_get, slice_get_within, slice_get-get_or, get_or_from_slice_get}
use Rattle.hc_dfa.proofs.Common.{◌↔◌, append_assoc, append-nil}
use Rattle.hc_dfa.proofs.Common.{Contains, Option, Some}
use Rattle.hc_dfa.proofs.Common.{None, Vec, Global, Classing, IsAsFine, AreChanges, ArePieces, AreStates, Gathers}
use Rattle.hc_dfa.proofs.Common.{GathersAll, Marks, Has, IsMarked, IsClosure, IsStep, LeadsTo, FollowsTo}
use Rattle.hc_dfa.proofs.Common.{TellsSteps, stays, goes_on, Bytes, Machine, Step, Goes, HasStep, Reads}
use Rattle.std.proofs.lemmas.List.{take-append-le, take_all, take_more}
use Rattle.std.proofs.lemmas.List.Elements.{Contains-append_left, Contains-get_or, Contains-push, Contains-push_cases}
use Rattle.std.proofs.lemmas.List.Sorted.{Contains-permutation, IsPermutation-sym}
use Rattle.std.specs.List.Sorted.{IsPermutation}

-- ---- lists

-- What one more element may be.
pub contains_more : {X : Type 0} (xs : List X) (i : ℕ) (d x : X) → i < length xs → Contains (take (i + 1) xs) x
    → Contains (take i xs) x ⊎ (slice_index_or xs i d ≡ x)
contains_more {X} xs i d x below has = Contains-push_cases (take i xs) (slice_index_or xs i d) x
    (subst (λ (ys : List X). Contains ys x) (take_more xs i d below) has)

pub contains_at : {X : Type 0} (xs : List X) (i : ℕ) (x : X) → slice_get xs i ≡ Some x → Contains xs x
contains_at xs i x at = (i, slice_get_within xs i x at, get_or_from_slice_get xs i x x at)

-- ---- what is gathered

-- Nothing new, and what is done now was done before.
pub gathers_same : (Done More Belongs : ℕ → Type 0) (set more : List ℕ) → Gathers Done Belongs set more
    → ((x : ℕ) → More x → Done x) → Gathers More Belongs set more
gathers_same Done More Belongs set more is done = record {
  rest = is.rest;
  extends = is.extends;
  sound = is.sound;
  complete = λ x m. is.complete x (done x m);
}

pub gathers_keeps : (Done Belongs : ℕ → Type 0) (set more : List ℕ) (x : ℕ) → Gathers Done Belongs set more
    → Contains set x → Contains more x
gathers_keeps Done Belongs set more x is has = rw is.extends (Contains-append_left set is.rest x has)

pub gathers_more : (Done More Belongs New : ℕ → Type 0) (set more next : List ℕ) → Gathers Done Belongs set more
    → GathersAll New more next
    → ((x : ℕ) → New x → Belongs x) → ((x : ℕ) → More x → Done x ⊎ New x)
    → Gathers More Belongs set next
gathers_more Done More Belongs New set more next is new belongs done = record {
  rest = is.rest ++ new.rest;
  extends = new.extends ∙ ap (λ (xs : List ℕ). xs ++ new.rest) is.extends ∙ append_assoc set is.rest new.rest;
  sound = λ x at. elim (new.sound x at) [ inl old ↦ is.sound x old | inr n ↦ inr (belongs x n) ];
  complete = λ x m. elim (done x m)
      [ inl d ↦ gathers_keeps New New more next x new (is.complete x d) | inr n ↦ new.complete x n ];
}

pub gathers_old : (set : List ℕ) (state : ℕ) → Contains set state → GathersAll (λ x. x ≡ state) set set
gathers_old set state here = record {
  rest = [];
  extends = sym (append-nil set);
  sound = λ x at. inl at;
  complete = λ x e. subst (λ (y : ℕ). Contains set y) (sym e) here;
}

pub gathers_new : (set : List ℕ) (state : ℕ) → GathersAll (λ x. x ≡ state) set (set ++ state ∷ [])
gathers_new set state = record {
  rest = state ∷ [];
  extends = refl;
  sound = λ x at. elim (Contains-push_cases set state x at) [ inl old ↦ inl old | inr e ↦ inr (sym e) ];
  complete = λ x e. subst (λ (y : ℕ). Contains (set ++ state ∷ []) y) (sym e) (Contains-push set state);
}

pub gathers_states : (m : Machine) (set more : List ℕ) (to : ℕ) → AreStates m set → to < length m.steps.items
    → GathersAll (λ x. x ≡ to) set more → AreStates m more
gathers_states m set more to are below is k d k_below =
    elim (is.sound (slice_index_or more k d) (Contains-get_or more k d k_below)) [
      | inl old ↦ subst (λ (y : ℕ). y < length m.steps.items) old.2 (are old.0 (slice_index_or more k d) old.1)
      | inr e ↦ subst (λ (y : ℕ). y < length m.steps.items) (sym e) below
    ]

-- ---- steps

-- One more step, which doesn't lead by this, and one that does.
pub steps_past : (steps : List Step) (i : ℕ) (d : Step) (byte : Option ℕ) (x : ℕ) → i < length steps
    → (Reads (slice_index_or steps i d).bytes byte → ⊥) → HasStep (take (i + 1) steps) byte x
    → HasStep (take i steps) byte x
steps_past steps i d byte x below isnt has = elim (contains_more steps i d has.0 below has.1) [
  | inl old ↦ (has.0, old, has.2)
  | inr e ↦ absurd (isnt (rw e has.2.0))
]

pub steps_more : (steps : List Step) (i : ℕ) (d : Step) (byte : Option ℕ) (x : ℕ) → i < length steps
    → HasStep (take (i + 1) steps) byte x → HasStep (take i steps) byte x ⊎ (x ≡ (slice_index_or steps i d).to)
steps_more steps i d byte x below has = elim (contains_more steps i d has.0 below has.1) [
  | inl old ↦ inl (has.0, old, has.2)
  | inr e ↦ inr (rw e (sym has.2.1))
]

-- The row of a state.
pub row_steps : (m : Machine) (state : ℕ) (row : Vec Step Global) (steps : List Step) → state < length m.steps.items
    → row ≡ slice_index_or m.steps.items state row → steps ≡ row.items
    → (byte : Option ℕ) (x : ℕ) → HasStep steps byte x ↔ Goes m state byte x
row_steps m state row steps below is same byte x = (
  (λ has. (row, at, rw same at has)),
  (λ goes. let e : goes.0 ≡ row = (let a = at in let g = goes.1 in cc) in
      rw (same, ← e) goes.2),
)
  where
    at : slice_get m.steps.items state ≡ Some row
    at = slice_get-get_or m.steps.items state row below ∙ ap Some (sym is)

-- One more state of a set.
pub leads_more : (m : Machine) (set : List ℕ) (i : ℕ) (byte : Option ℕ) (x : ℕ) → i < length set
    → LeadsTo m (take (i + 1) set) byte x → LeadsTo m (take i set) byte x ⊎ Goes m (slice_index set i) byte x
leads_more m set i byte x below leads = elim (contains_more set i 0 leads.0 below leads.1) [
  | inl old ↦ inl (leads.0, old, leads.2)
  | inr e ↦ inr (subst (λ (s : ℕ). Goes m s byte x) (sym e) leads.2)
]

-- ---- the closure

pub closing_more : (m : Machine) (initial set next : List ℕ) (place state : ℕ)
    → Gathers (LeadsTo m (take place set) None) (FollowsTo m initial) initial set
    → slice_get set place ≡ Some state → GathersAll (Goes m state None) set next
    → Gathers (LeadsTo m (take (place + 1) next) None) (FollowsTo m initial) initial next
closing_more m initial set next place state is at new =
    let below = slice_get_within set place state at in
    let value : slice_index set place ≡ state = get_or_from_slice_get set place state 0 at in
    gathers_more (LeadsTo m (take place set) None) (LeadsTo m (take (place + 1) next) None) (FollowsTo m initial)
    (Goes m state None) initial set next is new
    (λ x goes. elim (is.sound state (contains_at set place state at)) [
      | inl first ↦ (state, first, goes_on stays goes)
      | inr path ↦ (path.0, path.1, goes_on path.2 goes)
    ])
    (λ x leads.
    let front : take (place + 1) next ≡ take (place + 1) set = ap (take (place + 1)) new.extends
    ∙ take-append-le (place + 1) set new.rest (omega arith) in
    rw value at (leads_more m set place None x below (subst (λ (xs : List ℕ). LeadsTo m xs None x) front leads)))

pub closing_done : (m : Machine) (initial set sorted : List ℕ) (place : ℕ)
    → Gathers (LeadsTo m (take place set) None) (FollowsTo m initial) initial set
    → length set ≤ place → IsPermutation set sorted → IsClosure m initial sorted
closing_done m initial set sorted place is all moved =
    let to = λ (x : ℕ). Contains-permutation set sorted x moved in
    let back = λ (x : ℕ). Contains-permutation sorted set x (IsPermutation-sym set sorted moved) in
    record {
      keeps = λ x at. to x (gathers_keeps _ _ initial set x is at);
      sound = λ x at. elim (is.sound x (back x at)) [ inl first ↦ (x, first, stays) | inr path ↦ path ];
      closed = λ x leads. to x (is.complete x (leads.0, rw (take_all place set all) (back leads.0 leads.1), leads.2));
    }

-- ---- bytes that are read alike

-- Two bytes with no change between them are read by the same steps.
module _ (changes : List Bool) (b d : ℕ) (ordered : b ≤ d)
    (none : (k : ℕ) → b < k → k ≤ d → Has changes k → ⊥) where
  read_later : (bytes : Option Bytes) → IsMarked changes bytes → Reads bytes (Some b) → Reads bytes (Some d)
  read_later None marked reads = reads
  read_later (Some bytes) marked reads =
      let cases : (d ≤ bytes.high) ⊎ (bytes.high < d) = grind arith in
      let low = reads.0 in
      let high = reads.1 in (
        omega arith,
        elim cases
            [ inl h ↦ h | inr past ↦ absurd (none (bytes.high + 1) (omega arith) (omega arith) marked.1) ],
      )

  read_earlier : (bytes : Option Bytes) → IsMarked changes bytes → Reads bytes (Some d) → Reads bytes (Some b)
  read_earlier None marked reads = reads
  read_earlier (Some bytes) marked reads =
      let cases : (bytes.low ≤ b) ⊎ (b < bytes.low) = grind arith in
      let high = reads.1 in (
        elim cases [ inl l ↦ l | inr past ↦ absurd (none bytes.low past reads.0 marked.0) ],
        omega arith,
      )

-- Bytes that are read by the same steps lead to the same sets.
step_alike : (m : Machine) (changes : List Bool) (from to : List ℕ) (b d : ℕ) → AreChanges m.steps.items changes
    → ((bytes : Option Bytes) → IsMarked changes bytes → Reads bytes (Some b) → Reads bytes (Some d))
    → ((bytes : Option Bytes) → IsMarked changes bytes → Reads bytes (Some d) → Reads bytes (Some b))
    → IsStep m from b to → IsStep m from d to
step_alike m changes from to b d are later earlier step = record {
  read = step.read;
  closes = step.closes;
  reads = λ x. (
    (λ has. let leads = (step.reads x).0 has in (leads.0, leads.1, alike leads.0 x b d later leads.2)),
    (λ leads. (step.reads x).1 (leads.0, leads.1, alike leads.0 x d b earlier leads.2)),
  );
}
  where
    alike : (state x byte other : ℕ)
        → ((bytes : Option Bytes) → IsMarked changes bytes → Reads bytes (Some byte) → Reads bytes (Some other))
        → Goes m state (Some byte) x → Goes m state (Some other) x
    alike state x byte other same goes =
        let steps = goes.0 in
        let step = goes.2.0 in
        let marked = are.each steps (contains_at m.steps.items state steps goes.1) step goes.2.1 in
        (steps, goes.1, (step, goes.2.1, (same step.bytes marked goes.2.2.0, goes.2.2.1)))

pub pieces_tell : (m : Machine) (changes : List Bool) (numbers : List ℕ) (c : Classing)
    → AreChanges m.steps.items changes → ArePieces changes 256 numbers → IsAsFine c numbers → TellsSteps m c
pieces_tell m changes numbers c are pieces fine from to b d bb db same step =
    let cases : (b ≤ d) ⊎ (d ≤ b) = grind arith in
    elim cases [
      | inl up ↦ (let none = λ (k : ℕ). pieces b d k db (fine b d bb db same) in
          step_alike m changes from to b d are (read_later changes b d up none) (read_earlier changes b d up none) step)
      | inr down ↦ (let none = λ (k : ℕ). pieces d b k bb (sym (fine b d bb db same)) in
          step_alike m changes from to b d are (read_earlier changes d b down none) (read_later changes d b down none)
          step)
    ]

-- ---- changes

pub marked_later : (changes more : List Bool) (bytes : Option Bytes) → ((k : ℕ) → Has changes k → Has more k)
    → IsMarked changes bytes → IsMarked more bytes
marked_later changes more None keeps marked = marked
marked_later changes more (Some bytes) keeps marked =
    (keeps bytes.low marked.0, keeps (bytes.high + 1) marked.1)

pub marks_more : (steps : List Step) (i : ℕ) (d : Step) (changes more next : List Bool) → i < length steps
    → Marks (take i steps) changes more → Marks (slice_index_or steps i d ∷ []) more next
    → Marks (take (i + 1) steps) changes next
marks_more steps i d changes more next below is new = record {
  len = new.len ∙ is.len;
  keeps = λ k has. new.keeps k (is.keeps k has);
  each = λ step among. elim (contains_more steps i d step below among) [
    | inl old ↦ marked_later more next step.bytes new.keeps (is.each step old)
    | inr e ↦ new.each step (0, omega arith, e)
  ];
}

pub changes_more : (all : List (Vec Step Global)) (i : ℕ) (d : Vec Step Global) (changes more : List Bool)
    → i < length all → AreChanges (take i all) changes → Marks (slice_index_or all i d).items changes more
    → AreChanges (take (i + 1) all) more
changes_more all i d changes more below is new = record {
  len = new.len ∙ is.len;
  each = λ steps among step has. elim (contains_more all i d steps below among) [
    | inl old ↦ marked_later changes more step.bytes new.keeps (is.each steps old step has)
    | inr e ↦ new.each step (subst (λ (v : Vec Step Global). Contains v.items step) (sym e) has)
  ];
}
