-- Fragments of the machine of nodes, for each form of a pattern.
use Rattle.hc_pat_lang.proofs.Common.{◌≡◌, ◌≢◌, ℕ, zero, suc, ◌+◌, ◌<◌, ◌≤◌, ◌⊎◌}
use Rattle.hc_pat_lang.proofs.Common.{◌-◌, Bool, false, List, [], ◌∷◌, ◌++◌, length, nat_eq, Some, None}
use Rattle.hc_pat_lang.proofs.Common.{slice_get, slice_set, length-append, refl, sym, ◌∙◌, ap, inl, inr, arith}
use Rattle.hc_pat_lang.proofs.Common.{add-one, le-ltb, slice_get_within, Extends, has_byte, ByteSet, Ways, none, stop}
use Rattle.hc_pat_lang.proofs.Common.{behind, either, stop_where, grouped, moving, preferred, any_turns, turns_then}
use Rattle.hc_pat_lang.proofs.Common.{turns_up_to, repeated, Turns, with_turn, behind-behind, behind-stop, Bounded}
use Rattle.hc_pat_lang.proofs.Common.{Serves, KnowsEnds, KeepsEnd, KeepsEnds, IsBelow, IsReady, IsFragment, IsLooped}
use Rattle.hc_pat_lang.proofs.Common.{alone_gate, nowhere_gate, finish_gate, IsStep, IsFork, IsJoin, Gate, Point, Node}
use Rattle.hc_pat_lang.proofs.Common.{Dead, End, Fork, GroupPart, seen, step_by, step_node}
use Rattle.std.proofs.Math.ListN.{length-set}
use Rattle.hc_pat_lang.specs.Nodes.{Takes, LeadsBelow, AreNodes, AgreesFrom}
use Rattle.hc_pat_lang.specs.Nodes.Takes.{by_first}
use Rattle.hc_base.proofs.Shared.{get_last, get_set_other, get_set_same}
use Rattle.hc_pat_lang.proofs.Parts.{get_left, get_cases, then_one}
use Rattle.hc_pat_lang.proofs.Serving.{IsEither, AreEither, at_point, behind_turn, keeps_same, keeps_dead, keeps_finish}
use Rattle.hc_pat_lang.proofs.Serving.{keeps_step, keeps_then, keeps_either, knows_nowhere, taken, serves_step}
use Rattle.hc_pat_lang.proofs.Serving.{serves_none, serves_stop, serves_finish, serves_behind, serves_either}
use Rattle.hc_pat_lang.proofs.Serving.{serves_preferred, serves_grouped, serves_moving, serves_any, serves_turns}
use Rattle.hc_pat_lang.proofs.Serving.{serves_widens}

-- ---- nodes that are added

pub below_more : (count more : ℕ) (gate : Gate) → count ≤ more → IsBelow count gate → IsBelow more gate
below_more count more gate less below = omega arith

leads_more : (count more : ℕ) (node : Node) → count ≤ more → LeadsBelow count node → LeadsBelow more node
leads_more count more node less leads = grind arith

pub two_nodes : (nodes : List Node) → AreNodes nodes → 1 < length nodes
two_nodes nodes are = slice_get_within nodes 1 End are.end

-- The list with a node more.
pub record Pushed (old new : List Node) (node : Node) : Type 0 where
  pub kept : Extends old new
  pub longer : length new ≡ length old + 1
  pub last : slice_get new (length old) ≡ Some node
  pub are : AreNodes old → LeadsBelow (length old + 1) node → AreNodes new

pub pushed : (old new : List Node) (node : Node) → new ≡ old ++ node ∷ [] → Pushed old new node
pushed old new node is =
    let longer : length (old ++ node ∷ []) ≡ length old + 1 = length-append old (node ∷ []) in
    rw is (record {
      kept = λ i other at. get_left old (node ∷ []) i other at;
      longer = longer;
      last = get_last old node;
      are = λ are leads. record {
        dead = get_left old (node ∷ []) 0 Dead are.dead;
        end = get_left old (node ∷ []) 1 End are.end;
        within = λ i other at. rw longer (elim (get_cases old node i other at) [
          | inl before ↦ leads_more (length old) (length old + 1) other (omega arith) (are.within i other before)
          | inr last ↦ rw last.1 at leads
        ]);
      };
    })

pub are_set : (nodes : List Node) (n : ℕ) (y : Node) → AreNodes nodes → 1 < n → n < length nodes
    → LeadsBelow (length nodes) y → AreNodes (slice_set nodes n y)
are_set nodes n y are past below leads = record {
  dead = get_set_other nodes n 0 y (λ e. omega arith) ∙ are.dead;
  end = get_set_other nodes n 1 y (λ e. omega arith) ∙ are.end;
  within = λ i node at.
      let cases : (i ≡ n) ⊎ (i ≢ n) = grind arith in
      rw (length-set nodes n y) (elim cases [
        | inl e ↦ (let own = get_set_same nodes n y below in let same : y ≡ node = cc in rw same at leads)
        | inr other ↦ are.within i node (sym (get_set_other nodes n i y other) ∙ at)
      ]);
}

-- The later nodes have the earlier ones in their places.
pub record Grows (old new : List Node) : Type 0 where
  pub kept : Extends old new
  pub longer : length old ≤ length new
  pub are : AreNodes new

pub grows_on : (old mid new : List Node) → Grows old mid → Grows mid new → Grows old new
grows_on old mid new first second =
    record { kept = λ i node at. second.kept i node (first.kept i node at); longer = omega arith; are = second.are }

pub ready_later : (old new : List Node) (gate : Gate) → IsReady old gate → Grows old new → IsReady new gate
ready_later old new gate ready grows =
    record { are = grows.are; below = below_more (length old) (length new) gate grows.longer ready.below }

grows_none : (nodes : List Node) → AreNodes nodes → Grows nodes nodes
grows_none nodes are = record { kept = λ i node at. at; longer = omega arith; are = are }

-- ---- what fragments are in later nodes

record IsAt (later : List Node) (ways : List ℕ → Ways Turns) (exits entries : Gate) : Type 0 where
  pub ends : KeepsEnds later exits entries
  pub serves : KnowsEnds later exits → (text : List ℕ) → Serves later text (ways text) exits entries

fragment : {ways : List ℕ → Ways Turns} {exits entries : Gate} {old new : List Node} → Grows old new
    → IsBelow (length new) entries
    → ((later : List Node) → AreNodes later → AgreesFrom (length old) new later → IsAt later ways exits entries)
    → IsFragment ways exits old new entries
fragment grows below at = record {
  kept = grows.kept;
  longer = grows.longer;
  ready = record { are = grows.are; below = below };
  ends = λ later are agrees. (at later are agrees).ends;
  serves = λ later are agrees. (at later are agrees).serves;
}

at_later : {ways : List ℕ → Ways Turns} {exits entries : Gate} {old new : List Node}
    → IsFragment ways exits old new entries → (later : List Node) → AreNodes later
    → AgreesFrom (length old) new later
    → IsAt later ways exits entries
at_later is later are agrees = record { ends = is.ends later are agrees; serves = is.serves later are agrees }

ends_then : (later : List Node) (exits mid entries : Gate) → (KnowsEnds later exits → KnowsEnds later mid)
    → KeepsEnds later exits mid → KeepsEnds later mid entries → KeepsEnds later exits entries
ends_then later exits mid entries middle back front =
    record {
      first = keeps_then later _ _ _ back.first front.first;
      still = keeps_then later _ _ _ back.still front.still;
      moved = λ knows. keeps_then later _ _ _ (back.moved knows) (front.moved (middle knows));
    }

ends_same : (later : List Node) (gate : Gate) → KeepsEnds later gate gate
ends_same later gate =
    record { first = keeps_same later _; still = keeps_same later _; moved = λ knows. keeps_same later _ }

ends_either : (later : List Node) (exits one two entries : Gate) → KeepsEnds later exits one
    → KeepsEnds later exits two → AreEither later one two entries → KeepsEnds later exits entries
ends_either later exits one two entries left right is = record {
  first = keeps_either later _ _ _ _ left.first right.first is.first;
  still = keeps_either later _ _ _ _ left.still right.still is.still;
  moved = λ knows. keeps_either later _ _ _ _ (left.moved knows) (right.moved knows) is.moved;
}

-- ---- parts without a node of their own

pub fragment_finish : (exits : Gate) (nodes : List Node) → IsReady nodes exits
    → IsFragment (λ text. stop_where (λ at. nat_eq at (length text))) exits nodes nodes (finish_gate exits)
fragment_finish exits nodes ready =
    let some = two_nodes nodes ready.are in
    let below = ready.below in
    fragment (grows_none nodes ready.are) (grind arith) (λ later are agrees. record {
      ends = record {
        first = keeps_finish later are _;
        still = keeps_finish later are _;
        moved = λ knows. keeps_finish later are _;
      };
      serves = λ knows text. serves_finish later text are exits knows;
    })

pub fragment_stop : (exits : Gate) (nodes : List Node) → IsReady nodes exits
    → IsFragment (λ text. stop) exits nodes nodes exits
fragment_stop exits nodes ready =
    fragment (grows_none nodes ready.are) ready.below
    (λ later are agrees. record { ends = ends_same later exits; serves = λ knows text. serves_stop later text exits })

-- No way leads from nowhere.
pub fragment_none : (exits : Gate) (nodes : List Node) → IsReady nodes exits
    → IsFragment (λ text. none) exits nodes nodes nowhere_gate
fragment_none exits nodes ready =
    let some = two_nodes nodes ready.are in
    fragment (grows_none nodes ready.are) (omega arith) (λ later are agrees. record {
      ends = record {
        first = keeps_dead later are _;
        still = keeps_dead later are _;
        moved = λ knows. keeps_dead later are _;
      };
      serves = λ knows text. serves_none later text are exits;
    })

-- ---- one byte

step_below : (part : GroupPart) (set : ByteSet) (to count : ℕ) → to < count
    → LeadsBelow count (step_node part set to)
step_below part set to count below = grind arith

pub fragment_step : (part : GroupPart) (test : ℕ → Bool) (set : ByteSet) (exits entries : Gate)
    (old new : List Node) → IsReady old exits → IsStep old new (step_node part set exits.moved.state) entries
    → ((byte : ℕ) → test byte ≡ has_byte set byte)
    → IsFragment (λ text. step_by (seen part text) test) exits old new entries
fragment_step part test set exits entries old new ready is same =
    let entry : Point = record { state = length old; ends = false } in
    let gate : entries ≡ record { first = entry; still = entry; moved = entry } =
    λ i. record { first = is.first i; still = is.still i; moved = is.moved i } in
    let more = pushed old new _ is.nodes in
    let below = ready.below in
    rw gate (fragment
    (record {
      kept = more.kept;
      longer = omega arith;
      are = more.are ready.are (step_below part set _ _ (omega arith));
    }) (omega arith) (λ later are agrees.
    let step = agrees (length old) _ (omega arith) more.last in
    let keeps = λ (exit : Point). keeps_step later part set exits.moved.state exit entry step refl in
    record {
      ends = record { first = keeps exits.first; still = keeps exits.still; moved = λ knows. keeps exits.moved };
      serves = λ knows text. serves_step later text part set test exits entry same step
          (record { first = entry; still = entry; moved = entry })
          (λ moved at. at_point (λ (p : Gate → Point). p (record { first = entry; still = entry; moved = entry })
          ≡ entry) moved at refl refl refl);
    }))

-- ---- nodes that are added around

pub fragment_grows : (ways : List ℕ → Ways Turns) (exits entries : Gate) (old new : List Node)
    → IsFragment ways exits old new entries → Grows old new
fragment_grows ways exits entries old new is = record { kept = is.kept; longer = is.longer; are = is.ready.are }

pub fragment_later : (ways : List ℕ → Ways Turns) (exits entries : Gate) (old mid new : List Node)
    → IsFragment ways exits old mid entries → Grows mid new → IsFragment ways exits old new entries
fragment_later ways exits entries old mid new is grows =
    fragment (grows_on old mid new (fragment_grows _ _ _ old mid is) grows)
    (ready_later mid new entries is.ready grows).below
    (λ later are agrees. at_later is later are (λ i node past at. agrees i node past (grows.kept i node at)))

pub fragment_earlier : (ways : List ℕ → Ways Turns) (exits entries : Gate) (base old new : List Node)
    → Grows base old → IsFragment ways exits old new entries → IsFragment ways exits base new entries
fragment_earlier ways exits entries base old new grows is =
    fragment (grows_on base old new grows (fragment_grows _ _ _ old new is)) is.ready.below
    (λ later are agrees. at_later is later are (λ i node past at. agrees i node (omega arith) at))

-- ---- one behind the other

knows_middle : (later : List Node) (ways : List ℕ → Ways Turns) (exits middle : Gate)
    → IsAt later ways exits middle → KnowsEnds later exits → KnowsEnds later middle
knows_middle later ways exits middle is knows = record {
  first = is.ends.first.knows knows.first;
  still = is.ends.still.knows knows.still;
  moved = (is.ends.moved knows).knows knows.moved;
  widens = λ text. serves_widens later text (ways (0 ∷ text)) exits middle knows.widens
      (is.serves knows (0 ∷ text));
}

pub fragment_behind : (first second : List ℕ → Ways Turns) (exits middle entries : Gate) (old mid new : List Node)
    → IsFragment second exits old mid middle → IsFragment first middle mid new entries
    → IsFragment (λ text. behind (first text) (second text)) exits old new entries
fragment_behind first second exits middle entries old mid new two one =
    let l = two.longer in
    fragment (grows_on old mid new (fragment_grows _ _ _ old mid two) (fragment_grows _ _ _ mid new one))
    one.ready.below (λ later are agrees.
    let back = at_later two later are (λ i node past at. agrees i node past (one.kept i node at)) in
    let front = at_later one later are (λ i node past at. agrees i node (omega arith) at) in
    let known = knows_middle later _ exits middle back in
    record {
      ends = ends_then later exits middle entries known back.ends front.ends;
      serves = λ knows text. serves_behind later text (first text) (second text) exits middle entries
          (front.serves (known knows) text) (back.serves knows text);
    })

-- ---- one or the other

-- A node for two points.
record Forked (old new : List Node) (first second point : Point) : Type 0 where
  pub kept : Extends old new
  pub longer : length new ≡ length old + 1
  pub below : point.state < length new
  pub are : AreNodes old → first.state < length old → second.state < length old → AreNodes new
  pub either : (later : List Node) → AgreesFrom (length old) new later → IsEither later first second point

forked : (old new : List Node) (first second point : Point) → IsFork old new first second point
    → Forked old new first second point
forked old new first second point fork =
    let more = pushed old new _ fork.nodes in
    rw fork.is (record {
      kept = more.kept;
      longer = more.longer;
      below = omega arith;
      are = λ are one two. more.are are (omega arith);
      either = λ later agrees. record { fork = agrees (length old) _ (omega arith) more.last; ends = refl };
    })

-- Two gates are joined.
record Joined (one two entries : Gate) (old new : List Node) : Type 0 where
  pub grows : Grows old new
  pub below : IsBelow (length new) entries
  pub either : (later : List Node) → AgreesFrom (length old) new later → AreEither later one two entries

joined : (one two entries : Gate) (old new : List Node) → IsJoin old new one two entries → AreNodes old
    → IsBelow (length old) one → IsBelow (length old) two → Joined one two entries old new
joined one two entries old new join are left right =
    let a = forked old join.one _ _ _ join.at_first in
    let b = forked join.one join.two _ _ _ join.at_still in
    let c = forked join.two new _ _ _ join.at_moved in
    record {
      grows = record {
        kept = λ i node at. c.kept i node (b.kept i node (a.kept i node at));
        longer = omega arith;
        are = c.are (b.are (a.are are left.first right.first) (omega arith) (omega arith)) (omega arith) (omega arith);
      };
      below = omega arith;
      either = λ later agrees. record {
        first = a.either later (λ i node past at. agrees i node past (c.kept i node (b.kept i node at)));
        still = b.either later (λ i node past at. agrees i node (omega arith) (c.kept i node at));
        moved = c.either later (λ i node past at. agrees i node (omega arith) at);
      };
    }

pub join_ready : (one two entries : Gate) (old new : List Node) → IsJoin old new one two entries → AreNodes old
    → IsBelow (length old) one → IsBelow (length old) two → IsReady new entries
join_ready one two entries old new join are left right =
    (let j = joined one two entries old new join are left right in record { are = j.grows.are; below = j.below })

pub join_grows : (one two entries : Gate) (old new : List Node) → IsJoin old new one two entries → AreNodes old
    → IsBelow (length old) one → IsBelow (length old) two → Grows old new
join_grows one two entries old new join are left right = (joined one two entries old new join are left right).grows

pub fragment_joined : (first second : List ℕ → Ways Turns) (exits one two entries : Gate) (old most new : List Node)
    → IsFragment first exits old most one → IsFragment second exits old most two
    → IsJoin most new one two entries → IsFragment (λ text. either (first text) (second text)) exits old new
    entries
fragment_joined first second exits one two entries old most new left right join =
    let l = left.longer in
    let j = joined one two entries most new join right.ready.are left.ready.below right.ready.below in
    fragment (grows_on old most new (fragment_grows _ _ _ old most left) j.grows) j.below (λ later are agrees.
    let a = at_later left later are (λ i node past at. agrees i node past (j.grows.kept i node at)) in
    let b = at_later right later are (λ i node past at. agrees i node past (j.grows.kept i node at)) in
    let e = j.either later (λ i node past at. agrees i node (omega arith) at) in
    record {
      ends = ends_either later exits one two entries a.ends b.ends e;
      serves = λ knows text. serves_either later text (first text) (second text) exits one two entries
          (a.serves knows text) (b.serves knows text) e;
    })

pub fragment_either : (first second : List ℕ → Ways Turns) (exits one two entries : Gate)
    (old mid most new : List Node) → IsFragment first exits old mid one → IsFragment second exits mid most two
    → IsJoin most new one two entries → IsFragment (λ text. either (first text) (second text)) exits old new
    entries
fragment_either first second exits one two entries old mid most new left right =
    fragment_joined first second exits one two entries old most new
    (fragment_later _ _ _ old mid most left (fragment_grows _ _ _ mid most right))
    (fragment_earlier _ _ _ old mid most (fragment_grows _ _ _ old mid left) right)

pub fragment_preferred : (greedy : Bool) (turn : List ℕ → Ways Turns) (exits one entries : Gate)
    (old mid new : List Node) → IsBelow (length old) exits → IsFragment turn exits old mid one
    → IsJoin mid new one exits entries → IsFragment (λ text. preferred greedy (turn text)) exits old new entries
fragment_preferred greedy turn exits one entries old mid new below left join =
    let l = left.longer in
    let j = joined one exits entries mid new join left.ready.are left.ready.below
    (below_more _ _ exits left.longer below) in
    fragment (grows_on old mid new (fragment_grows _ _ _ old mid left) j.grows) j.below (λ later are agrees.
    let a = at_later left later are (λ i node past at. agrees i node past (j.grows.kept i node at)) in
    let e = j.either later (λ i node past at. agrees i node (omega arith) at) in
    record {
      ends = ends_either later exits one exits entries a.ends (ends_same later exits) e;
      serves = λ knows text. serves_preferred later text greedy (turn text) exits one entries (a.serves knows text)
          e;
    })

pub fragment_grouped : (number : ℕ) (body : List ℕ → Ways Turns) (exits entries : Gate) (old new : List Node)
    → IsFragment body exits old new entries
    → IsFragment (λ text. grouped with_turn number (body text)) exits old new entries
fragment_grouped number body exits entries old new is =
    fragment (fragment_grows _ _ _ old new is) is.ready.below (λ later are agrees.
    record {
      ends = is.ends later are agrees;
      serves = λ knows text. serves_grouped later text number (body text) exits
          entries (is.serves later are agrees knows text);
    })

pub fragment_as : (ways other : List ℕ → Ways Turns) (exits entries : Gate) (old new : List Node)
    → ((text : List ℕ) → ways text ≡ other text) → IsFragment ways exits old new entries
    → IsFragment other exits old new entries
fragment_as ways other exits entries old new same is = (let e : ways ≡ other = λ i text. same text i in rw e at is)

pub fragment_moving : (body : List ℕ → Ways Turns) (exits turn : Gate) (old new : List Node)
    → IsFragment body (behind_turn [] [] exits.moved) old new turn
    → IsFragment (λ text. moving (body text)) exits old new (alone_gate turn)
fragment_moving body exits turn old new is =
    let below = is.ready.below in
    fragment (fragment_grows _ _ _ old new is)
    (record { first = below.first; still = below.still; moved = below.still }) (λ later are agrees.
    let e = is.ends later are agrees in
    let dead = keeps_dead later are in
    let nowhere_known = knows_nowhere later are in
    record {
      ends = record {
        first = keeps_then later _ _ _ (dead _) e.first;
        still = keeps_then later _ _ _ (dead _) e.still;
        moved = λ knows. keeps_then later _ _ _ (dead _) e.still;
      };
      serves = λ knows text. serves_moving later text are (body text) exits turn
          (is.serves later are agrees
          (record {
            first = nowhere_known;
            still = nowhere_known;
            moved = knows.moved;
            widens = λ text path. absurd (taken later _ are.dead path);
          }) text);
    })

-- ---- any number of turns

-- What the node takes at which a further turn may begin.
module _ (later : List Node) (exits turn : Gate) (again : Point)
    (loop : slice_get later again.state ≡ Some (Fork exits.moved.state turn.still.state)) where
  by_again : KeepsEnd later exits.still turn.still → KnowsEnds later exits → Takes later again.state []
      → Takes later exits.moved.state []
  by_again keeps knows path =
      elim (taken later _ loop path)
      [ inl own ↦ own | inr turned ↦ knows.widens [] (keeps.back knows.still turned) ]

  knows_inner : again.ends ≡ exits.moved.ends → KeepsEnd later exits.still turn.still → KnowsEnds later exits
      → KnowsEnds later (record exits { moved = again })
  knows_inner same keeps knows = record {
    first = knows.first;
    still = knows.still;
    moved = record {
      ends = λ e. by_first loop (knows.moved.ends (sym same ∙ e));
      only = λ path. same
          ∙ knows.moved.only (by_again keeps knows path);
    };
    widens = λ text path. by_first loop (knows.widens text path);
  }

pub is_looped : (body : List ℕ → Ways Turns) (exits turn : Gate) (again : Point) (old bare built new : List Node)
    → IsReady old exits
    → bare ≡ old ++ Dead ∷ [] → again ≡ record { state = length old; ends = exits.moved.ends }
    → IsFragment body (record exits { moved = again }) bare built turn
    → new ≡ slice_set built (length old) (Fork exits.moved.state turn.still.state)
    → IsLooped body exits old new turn
is_looped body exits turn again old bare built new ready is_bare again_is is new_is =
    let loop = Fork exits.moved.state turn.still.state in
    let a = pushed old bare Dead is_bare in
    let l = is.longer in
    let s : length new ≡ length built = ap length new_is ∙ length-set built (length old) loop in
    let two = two_nodes old ready.are in
    let below = ready.below in
    let turn_below = is.ready.below in
    let other = λ (i : ℕ) (o : i ≢ length old). let e : slice_get new i ≡ slice_get built i =
    rw new_is (get_set_other built (length old) i _ o) in e in
    let new_are : AreNodes new =
    rw new_is (are_set built (length old) loop is.ready.are two (omega arith) (omega arith)) in
    let turns = λ (later : List Node) (are : AreNodes later) (agrees : AgreesFrom (length old) new later). at_later is
    later are (λ i node past at. agrees i node (omega arith) (other i (λ e. omega arith) ∙ at)) in
    let loop_at = λ (later : List Node) (agrees : AgreesFrom (length old) new later).
    let at : slice_get later again.state ≡ Some loop =
    rw again_is
    (agrees (length old) loop (omega arith) (rw new_is (get_set_same built (length old) loop (omega arith)))) in
    at in
    let known =
    λ (later : List Node) (are : AreNodes later) (agrees : AgreesFrom (length old) new later)
    (knows : KnowsEnds later exits).
    knows_inner later exits turn again (loop_at later agrees) (ap (λ (p : Point). p.ends) again_is)
    (turns later are agrees).ends.still knows in
    record {
      again = again;
      kept = λ i node at. (let w = slice_get_within old i node at in other i (λ e. omega arith)
          ∙ is.kept i node (a.kept i node at));
      longer = omega arith;
      ready = record { are = new_are; below = below_more (length built) (length new) turn (omega arith) turn_below };
      ends = λ later are agrees. let t = (turns later are agrees).ends in record {
        first = t.first;
        still = t.still;
        moved = λ knows. let k = known later are agrees knows in
            record {
              knows = λ own. (t.moved k).knows k.moved;
              back = λ own path. by_again later exits turn again (loop_at later agrees) t.still knows
                  ((t.moved k).back k.moved path);
            };
      };
      loop = loop_at;
      serves = λ later are agrees knows text. (turns later are agrees).serves (known later are agrees knows) text;
    }

pub looped_any : (body : List ℕ → Ways Turns) (exits turn entries : Gate) (old mid new : List Node) (greedy : Bool)
    → ((text : List ℕ) → Bounded (length text) (body text)) → IsBelow (length old) exits
    → IsLooped body exits old mid turn → IsJoin mid new turn exits entries
    → IsFragment (λ text. any_turns greedy (body text) (length text)) exits old new entries
looped_any body exits turn entries old mid new greedy fits below is join =
    let l = is.longer in
    let j = joined turn exits entries mid new join is.ready.are is.ready.below (below_more _ _ exits is.longer below) in
    fragment (grows_on old mid new (record { kept = is.kept; longer = is.longer; are = is.ready.are }) j.grows) j.below
    (λ later are agrees.
    let before = λ (i : ℕ) (node : Node) (past : length old ≤ i) (at : slice_get mid i ≡ Some node). agrees i
    node past (j.grows.kept i node at) in
    let e = j.either later (λ i node past at. agrees i node (omega arith) at) in
    record {
      ends = ends_either later exits turn exits entries (is.ends later are before) (ends_same later exits) e;
      serves = λ knows text. serves_any later text greedy (body text) (fits text) exits turn is.again
          (is.loop later before) knows.widens (is.serves later are before knows text) entries e;
    })

pub looped_turns : (body : List ℕ → Ways Turns) (exits turn : Gate) (old new : List Node) (greedy : Bool)
    → ((text : List ℕ) → Bounded (length text) (body text)) → IsLooped body exits old new turn
    → IsFragment (λ text. behind (body text) (any_turns greedy (body text) (length text))) exits old new turn
looped_turns body exits turn old new greedy fits is =
    fragment (record { kept = is.kept; longer = is.longer; are = is.ready.are }) is.ready.below
    (λ later are agrees. record {
      ends = is.ends later are agrees;
      serves = λ knows text. serves_turns later text greedy (body text) (fits text) exits turn is.again
          (is.loop later agrees) knows.widens (is.serves later are agrees knows text);
    })

-- ---- turns

then_behind : (body : Ways Turns) (least : ℕ) (more : Ways Turns) → behind (turns_then body least stop) more
    ≡ turns_then body least more
then_behind body zero more = behind-stop more
then_behind body (suc least) more = behind-behind body (turns_then body least stop) more
    ∙ ap (behind body) (then_behind body least more)

-- Behind the turn is where it may begin again.
pub inner_ready : (old new : List Node) (exits inner : Gate) (again : Point) → IsReady old exits
    → new ≡ old ++ Dead ∷ [] → again.state ≡ length old → inner ≡ record exits { moved = again }
    → IsReady new inner
inner_ready old new exits inner again ready is_new last is =
    (let more = pushed old new Dead is_new in let b = ready.below in
    rw is (record { are = more.are ready.are tt; below = omega arith }))

module _ (body : List ℕ → Ways Turns) (exits more entries : Gate) (old mid new : List Node) (least : ℕ) where
  pub fragment_then : (rest : List ℕ → Ways Turns) → IsFragment rest exits old mid more
      → IsFragment (λ text. turns_then (body text) least stop) more mid new entries
      → IsFragment (λ text. turns_then (body text) least (rest text)) exits old new entries
  fragment_then rest later turns =
      fragment_as _ _ exits entries old new (λ text. then_behind (body text) least (rest text))
      (fragment_behind _ _ exits more entries old mid new later turns)

pub fragment_least : (greedy : Bool) (body : List ℕ → Ways Turns) (exits turn entries : Gate)
    (old mid new : List Node) (least : ℕ) → 0 < least → ((text : List ℕ) → Bounded (length text) (body text))
    → IsLooped body exits old mid turn → IsFragment (λ text. turns_then (body text) (least - 1) stop) turn mid new
    entries
    → IsFragment (λ text. repeated (length text) (body text) least None greedy) exits old new entries
fragment_least greedy body exits turn entries old mid new zero some fits later turns = absurd (omega arith)
fragment_least greedy body exits turn entries old mid new (suc least) some fits later turns =
    let less : suc least - 1 ≡ least = omega arith in
    fragment_as _ _ exits entries old new
    (λ text. then_one (body text) least (any_turns greedy (body text) (length text)))
    (fragment_then body exits turn entries old mid new least _ (looped_turns body exits turn old mid greedy fits later)
    (rw less at turns))

pub fragment_repeat : (greedy : Bool) (body : List ℕ → Ways Turns) (exits more entries : Gate)
    (old mid new : List Node) (least most : ℕ) → least ≤ most
    → IsFragment (λ text. turns_up_to greedy (body text) (most - least)) exits old mid more
    → IsFragment (λ text. turns_then (body text) least stop) more mid new entries
    → IsFragment (λ text. repeated (length text) (body text) least (Some most) greedy) exits old new entries
fragment_repeat greedy body exits more entries old mid new least most within later turns =
    rw (le-ltb most least within) (fragment_then body exits more entries old mid new least _ later turns)

-- A turn more.
pub fragment_turn : (body : List ℕ → Ways Turns) (exits gate entries : Gate) (old mid new : List Node) (count : ℕ)
    → IsFragment (λ text. turns_then (body text) count stop) exits old mid gate
    → IsFragment body gate mid new entries → IsFragment (λ text. turns_then (body text) (count + 1) stop) exits old
    new entries
fragment_turn body exits gate entries old mid new count later turn =
    rw (add-one count) (fragment_behind _ _ exits gate entries old mid new later turn)

pub fragment_optional : (greedy : Bool) (body : List ℕ → Ways Turns) (exits gate turn entries : Gate)
    (old mid built new : List Node) (count : ℕ) → IsBelow (length old) exits
    → IsFragment (λ text. turns_up_to greedy (body text) count) exits old mid gate
    → IsFragment body gate mid built turn → IsJoin built new turn exits entries
    → IsFragment (λ text. turns_up_to greedy (body text) (count + 1)) exits old new entries
fragment_optional greedy body exits gate turn entries old mid built new count below later one join =
    rw (add-one count)
    (fragment_preferred greedy (λ text. behind (body text) (turns_up_to greedy (body text) count)) exits turn
    entries old built new below
    (fragment_behind _ _ exits gate turn old mid built later one) join)
