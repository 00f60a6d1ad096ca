-- Each text that a walk can begin with is one of exactly one end's, and this end is the walk's.
use Rattle.hc_abs_pass.proofs.Common.{◌≡◌, ◌∙◌, ℕ, zero, suc, ◌+◌, ◌<◌, ◌≤◌, List, []}
use Rattle.hc_abs_pass.proofs.Common.{◌∷◌, ◌++◌, map, length, drop, Bool, true, false, ◌&&◌}
use Rattle.hc_abs_pass.proofs.Common.{if◌then◌else◌, Option, Some, None, refl, sym, ap, ap₂, subst, arith}
use Rattle.hc_abs_pass.proofs.Common.{◌⊎◌, inl, inr, true≢false, append_assoc, append-nil, length-append}
use Rattle.hc_abs_pass.proofs.Common.{option_map, eqb-true, place_in, run, Shown, Step, leaves, look, ◌>>=◌}
use Rattle.hc_abs_pass.proofs.Common.{State, plan_run, pick, Like, decisions_in}
use Rattle.std.specs.List.{flat_map, list_any}
use Rattle.std.specs.Str.{bytes_eq}
use Rattle.hc_base.specs.Bytes.{slash}
use Rattle.hc_dfa.specs.Texts.{TextSet}
use Rattle.hc_base.specs.Paths.{begins_with_slash, ends_with_slash, has_double_slash, is_slash}
use Rattle.hc_model.specs.Walking.{steps}
use Rattle.hc_model.specs.declared.outcome.Outcome.{Outcome}
use Rattle.hc_model.specs.declared.read.Read.TheVariants.{KindOf}
use Rattle.hc_model.specs.declared.walk.Kind.{Kind}
use Rattle.hc_model.specs.declared.walk.Kind.TheVariants as kind
use Rattle.hc_model.specs.declared.walk.Walk.{Walk}
use Rattle.hc_plan.specs.Cover.{Among}
use Rattle.hc_plan.proofs.Slots.{own_bytes, same_bytes}
use Rattle.hc_steps.specs.Step.{Path}
use Rattle.hc_steps.specs.Walking.{ended, follow, onward}
use Rattle.hc_abs_rw.proofs.Expanding.{Quiet}
use Rattle.hc_abs_rw.specs.Templates.{main}
use Rattle.hc_abs_pass.specs.Walks.{WalkLike, arrived, stored_at, walk_plan}
use Rattle.hc_steps.specs.Walking.{walk}
use Rattle.hc_abs_pass.proofs.Components.{cut, or_false}
use Rattle.hc_abs_pass.specs.Walks.{Followed, IsListed, AreNames, WalkEnd, absent_end, at_root, below}
use Rattle.hc_abs_pass.specs.Walks.{behind_component, behind_slash, component, dir_end, end_at, ends_by, ends_in}
use Rattle.hc_abs_pass.specs.Walks.{ends_named, file_end, front_end, into, is_absent, is_empty}
use Rattle.hc_abs_pass.specs.Walks.{names_at, rooted}

-- ---- the first end that has a text

abbrev pub first_in : List WalkEnd → List ℕ → Option WalkEnd
first_in [] rest = None
first_in (end ∷ ends) rest = elim (end.rests rest) [ true ↦ Some end | false ↦ first_in ends rest ]

one_more : (at : ℕ) (sets : List TextSet) (own : List ℕ) → place_in (suc at) sets own ≡ suc
    (place_in at sets own)
one_more at [] own = refl
one_more at (set ∷ sets) own = by (set own) (one_more (suc at) sets own)
  where
    by : (is : Bool) → place_in (suc (suc at)) sets own ≡ suc (place_in (suc at) sets own)
        → elim is [ true ↦ suc at | false ↦ place_in (suc (suc at)) sets own ]
        ≡ suc (elim is [ true ↦ at | false ↦ place_in (suc at) sets own ])
    by true rest = refl
    by false rest = rest

-- The place that a sort finds is that of the first end.
pub placed : (ends : List WalkEnd) (b : ℕ) (rest : List ℕ) → is_slash b ≡ true
    → end_at ends (place_in 0 (map rooted ends) (b ∷ rest)) ≡ first_in ends rest
placed [] b rest is = refl
placed (end ∷ ends) b rest is =
    ap (λ slash. end_at (end ∷ ends) (elim (slash && end.rests rest) [
      | true ↦ 0
      | false ↦ place_in 1 (map rooted ends) (b ∷ rest)
    ])) is
    ∙ by (end.rests rest) (placed ends b rest is)
  where
    by : (in_set : Bool) → end_at ends (place_in 0 (map rooted ends) (b ∷ rest)) ≡ first_in ends rest
        → end_at (end ∷ ends) (elim in_set [ true ↦ 0 | false ↦ place_in 1 (map rooted ends) (b ∷ rest) ])
        ≡ (elim in_set [ true ↦ Some end | false ↦ first_in ends rest ])
    by true more = refl
    by false more = ap (end_at (end ∷ ends)) (one_more 0 (map rooted ends) (b ∷ rest)) ∙ more

-- ---- lists of ends

abbrev pub or_else : Option WalkEnd → Option WalkEnd → Option WalkEnd
or_else None other = other
or_else (Some end) other = Some end

first_of_both : (one other : List WalkEnd) (rest : List ℕ)
    → first_in (one ++ other) rest ≡ or_else (first_in one rest) (first_in other rest)
first_of_both [] other rest = refl
first_of_both (end ∷ one) other rest = by (end.rests rest) (first_of_both one other rest)
  where
    by : (in_set : Bool) → first_in (one ++ other) rest ≡ or_else (first_in one rest) (first_in other rest)
        → (elim in_set [ true ↦ Some end | false ↦ first_in (one ++ other) rest ])
        ≡ or_else (elim in_set [ true ↦ Some end | false ↦ first_in one rest ]) (first_in other rest)
    by true more = refl
    by false more = more

first_below : (name : List ℕ) (ends : List WalkEnd) (rest inside : List ℕ) (b : ℕ)
    → bytes_eq (component rest) name ≡ true → behind_component rest ≡ b ∷ inside → is_slash b ≡ true
    → first_in (map (below name) ends) rest ≡ option_map (below name) (first_in ends inside)
first_below name [] rest inside b same behind is = refl
first_below name (end ∷ ends) rest inside b same behind is =
    ap (λ own. elim (own && behind_slash end.rests (behind_component rest)) [
      | true ↦ Some (below name end)
      | false ↦ first_in (map (below name) ends) rest
    ]) same
    ∙ ap (λ own. elim (behind_slash end.rests own) [
      | true ↦ Some (below name end)
      | false ↦ first_in (map (below name) ends) rest
    ]) behind
    ∙ ap (λ slash. elim (slash && end.rests inside) [
      | true ↦ Some (below name end)
      | false ↦ first_in (map (below name) ends) rest
    ]) is
    ∙ by (end.rests inside) (first_below name ends rest inside b same behind is)
  where
    by : (in_set : Bool)
        → first_in (map (below name) ends) rest ≡ option_map (below name) (first_in ends inside)
        → (elim in_set [ true ↦ Some (below name end) | false ↦ first_in (map (below name) ends) rest ])
        ≡ option_map (below name) (elim in_set [ true ↦ Some end | false ↦ first_in ends inside ])
    by true more = refl
    by false more = more

none_below : (name : List ℕ) (ends : List WalkEnd) (rest : List ℕ) → bytes_eq (component rest) name ≡ false
    → first_in (map (below name) ends) rest ≡ None
none_below name [] rest other = refl
none_below name (end ∷ ends) rest other =
    ap (λ own. elim (own && behind_slash end.rests (behind_component rest)) [
      | true ↦ Some (below name end)
      | false ↦ first_in (map (below name) ends) rest
    ]) other
    ∙ none_below name ends rest other

-- ---- the ends of the names in a directory

module _ (further : Followed → List WalkEnd) (shown : Shown) (at : Followed) (rest : List ℕ) where
  abbrev named_ends : List ℕ → List WalkEnd
  named_ends name = ends_named further shown at name

  -- Another name has no end for the text.
  none_named : (name : List ℕ) (found : Kind) → bytes_eq (component rest) name ≡ false
      → first_in (ends_by further at name found) rest ≡ None
  none_named name kind.Absent other = refl
  none_named name kind.File other =
      ap (λ own. elim (own && true) [ true ↦ Some (file_end at name) | false ↦ None ]) other
  none_named name kind.Dir other =
      ap (λ own. elim (own && is_empty (behind_component rest)) [
        | true ↦ Some (dir_end at name)
        | false ↦ first_in (map (below name) (further (into at name))) rest
      ]) other
      ∙ none_below name (further (into at name)) rest other

  -- The names are those before it, and then its own.
  found_among : (names : List (List ℕ)) (own : List ℕ) (end : WalkEnd) → component rest ≡ own
      → Among own names
      → first_in (named_ends own) rest ≡ Some end
      → first_in (flat_map named_ends names) rest ≡ Some end
  found_among [] own end is among found = absurd among
  found_among (name ∷ names) own end is among found =
      first_of_both (named_ends name) (flat_map named_ends names) rest
      ∙ by (bytes_eq own name) refl among (λ among. found_among names own end is among found)
    where
      by : (same : Bool) → bytes_eq own name ≡ same → (own ≡ name) ⊎ Among own names
          → (Among own names → first_in (flat_map named_ends names) rest ≡ Some end)
          → or_else (first_in (named_ends name) rest) (first_in (flat_map named_ends names) rest) ≡ Some end
      by true same among more =
          ap (λ name. or_else (first_in (named_ends name) rest) (first_in (flat_map named_ends names) rest))
          (sym (same_bytes own name same))
          ∙ ap (λ found. or_else found (first_in (flat_map named_ends names) rest)) found
      by false other (inl same) more =
          absurd (true≢false (sym (own_bytes own) ∙ ap (bytes_eq own) same ∙ other))
      by false other (inr among) more =
          ap (λ found. or_else found (first_in (flat_map named_ends names) rest))
          (none_named name (shown (KindOf (at.front ++ name))) (ap (λ own. bytes_eq own name) is ∙ other))
          ∙ more among

  none_among : (names : List (List ℕ)) (own : List ℕ) → component rest ≡ own
      → first_in (named_ends own) rest ≡ None
      → first_in (flat_map named_ends names) rest ≡ None
  none_among [] own is none = refl
  none_among (name ∷ names) own is none =
      first_of_both (named_ends name) (flat_map named_ends names) rest
      ∙ by (bytes_eq own name) refl (none_among names own is none)
    where
      by : (same : Bool) → bytes_eq own name ≡ same
          → first_in (flat_map named_ends names) rest ≡ None
          → or_else (first_in (named_ends name) rest) (first_in (flat_map named_ends names) rest) ≡ None
      by true same more =
          ap (λ name. or_else (first_in (named_ends name) rest) (first_in (flat_map named_ends names) rest))
          (sym (same_bytes own name same))
          ∙ ap (λ found. or_else found (first_in (flat_map named_ends names) rest)) none
          ∙ more
      by false other more =
          ap (λ found. or_else found (first_in (flat_map named_ends names) rest))
          (none_named name (shown (KindOf (at.front ++ name))) (ap (λ own. bytes_eq own name) is ∙ other))
          ∙ more

-- ---- texts

-- No two slashes behind a front of a text.
single_behind : (own tail : List ℕ) → has_double_slash (own ++ tail) ≡ false → has_double_slash tail ≡ false
single_behind [] tail none = none
single_behind (b ∷ own) tail none = single_behind own tail (by (own ++ tail) none)
  where
    by : (rest : List ℕ) → has_double_slash (b ∷ rest) ≡ false → has_double_slash rest ≡ false
    by [] none = refl
    by (c ∷ rest) none = (or_false _ _ none).1

-- ---- the steps of a walk

over_plain : (own : List ℕ) → list_any is_slash own ≡ false → (seen tail : List ℕ)
    → steps seen (own ++ tail) ≡ steps (seen ++ own) tail
over_plain [] plain seen tail = ap (λ seen. steps seen tail) (sym (append-nil seen))
over_plain (b ∷ own) plain seen tail =
    let both = or_false (is_slash b) (list_any is_slash own) plain in
    ap (λ slash. if slash then (seen, b ∷ (own ++ tail)) ∷ steps (seen ++ b ∷ []) (own ++ tail)
    else steps (seen ++ b ∷ []) (own ++ tail)) both.0
    ∙ over_plain own both.1 (seen ++ b ∷ []) tail
    ∙ ap (λ seen. steps seen tail) (append_assoc seen (b ∷ []) own)

at_slash : (seen more : List ℕ) (b : ℕ) → is_slash b ≡ true
    → steps seen (b ∷ more) ≡ (seen, b ∷ more) ∷ steps (seen ++ b ∷ []) more
at_slash seen more b is =
    ap (λ slash. if slash then (seen, b ∷ more) ∷ steps (seen ++ b ∷ []) more
    else steps (seen ++ b ∷ []) more) is

pub last_of : (seen : List ℕ) (b : ℕ) (own : List ℕ) → ends_with_slash (seen ++ b ∷ own) ≡ ends_with_slash
    (b ∷ own)
last_of [] b own = refl
last_of (a ∷ []) b own = refl
last_of (a ∷ c ∷ seen) b own = last_of (c ∷ seen) b own

pub no_last : (b : ℕ) (own : List ℕ) → list_any is_slash (b ∷ own) ≡ false → ends_with_slash (b ∷ own)
    ≡ false
no_last b [] plain = (or_false _ _ plain).0
no_last b (c ∷ own) plain = no_last c own (or_false _ _ plain).1

at_end : (seen own : List ℕ) → list_any is_slash own ≡ false → is_empty own ≡ false
    → steps (seen ++ own) [] ≡ (seen ++ own, []) ∷ []
at_end seen [] plain some = absurd (true≢false some)
at_end seen (b ∷ own) plain some =
    ap (λ slash. if slash then [] else (seen ++ b ∷ own, []) ∷ []) (last_of seen b own ∙ no_last b own plain)

-- ---- the walk

abbrev pub Leads : Step Outcome Walk → Shown → Walk → Type 0
Leads step shown walk = Quiet (run step shown) walk

-- A component is looked at, and then it goes on or has ended.
looked_at : (part : List ℕ × List ℕ) (dirs : List Path) (rest : Step Outcome Walk) (shown : Shown) (found : Kind)
    (walk : Walk) → shown (KindOf part.0) ≡ found → Leads (onward part dirs rest found) shown walk
    → Leads (look (KindOf part.0) leaves >>= onward part dirs rest) shown walk
unfolding run ◌>>=◌
looked_at part dirs rest shown found walk is quiet =
    subst (λ found. Leads (onward part dirs rest found) shown walk) (sym is) quiet

stays_there : (walk : Walk) (shown : Shown) → Leads (leaves walk) shown walk
unfolding run
stays_there walk shown = (refl, refl)

module _ (most : ℕ) (shown : Shown) (listed : IsListed most shown) where
  abbrev pub walk_of : WalkEnd → List ℕ → Walk
  walk_of end rest = ended (end.name rest) (end.info rest) end.kind end.dirs

  -- The first end that has a text is the end of its walk.
  abbrev pub Found : ℕ → Followed → List ℕ → Type 0
  Found levels at rest = (end : WalkEnd) × (first_in (ends_in levels shown at) rest ≡ Some end)
      × Leads (follow (at.front ++ rest) (steps at.front rest) at.dirs) shown (walk_of end rest)

  -- A directory that is followed: its names, and that there are levels enough.
  pub record Stays (levels : ℕ) (at : Followed) : Type 0 where
    pub names : AreNames shown at.path at.front
    pub enough : most ≤ length at.front + levels
    pub short : length at.front < most
    pub slashed : ends_with_slash at.front ≡ true

  abbrev pub Each : ℕ → Type 0
  Each levels = (at : Followed) (rest : List ℕ) → Stays levels at → has_double_slash (slash ∷ rest) ≡ false
      → Found levels at rest

  module _ (levels : ℕ) (each : Each levels) (at : Followed) (stays : Stays (suc levels) at) (b : ℕ) (bs : List ℕ)
      (single : has_double_slash (slash ∷ b ∷ bs) ≡ false) where
    abbrev rest : List ℕ
    rest = b ∷ bs

    abbrev name : List ℕ
    name = component rest

    abbrev tail : List ℕ
    tail = behind_component rest

    abbrev path : Path
    path = at.front ++ name

    abbrev further : Followed → List WalkEnd
    further at = ends_in levels shown at

    later_single : has_double_slash rest ≡ false
    later_single = (or_false _ _ single).1

    no_slash : is_slash b ≡ false
    no_slash = (or_false _ _ single).0

    some : is_empty name ≡ false
    some = ap (λ slash. is_empty (elim slash [ true ↦ [] | false ↦ b ∷ component bs ])) no_slash

    own_name : bytes_eq (component rest) name ≡ true
    own_name = own_bytes name

    -- A name that stands there.
    named_first : (end : WalkEnd) → is_absent (shown (KindOf path)) ≡ false
        → first_in (ends_named further shown at name) rest ≡ Some end
        → first_in (ends_in (suc levels) shown at) rest ≡ Some end
    unfolding ends_in
    named_first end there found =
        first_of_both (flat_map (ends_named further shown at) (names_at shown at.path))
        (absent_end shown at ∷ []) rest
        ∙ ap (λ found. or_else found (first_in (absent_end shown at ∷ []) rest))
        (found_among further shown at rest (names_at shown at.path) name end refl
        (stays.names name some (cut rest).plain there) found)

    absent_first : shown (KindOf path) ≡ kind.Absent
        → first_in (ends_in (suc levels) shown at) rest ≡ Some (absent_end shown at)
    unfolding ends_in
    absent_first is =
        first_of_both (flat_map (ends_named further shown at) (names_at shown at.path))
        (absent_end shown at ∷ []) rest
        ∙ ap (λ found. or_else found (first_in (absent_end shown at ∷ []) rest))
        (none_among further shown at rest (names_at shown at.path) name refl
        (ap (λ found. first_in (ends_by further at name found) rest) is))
        ∙ ap (λ found. elim (is_absent found) [ true ↦ Some (absent_end shown at) | false ↦ None ]) is

    -- The steps of the walk, and what stands at the first component.
    walked : (later : List (List ℕ × List ℕ)) (found : Kind) (end : WalkEnd)
        → steps at.front rest ≡ (path, tail) ∷ later → shown (KindOf path) ≡ found
        → Leads (onward (path, tail) at.dirs (follow (at.front ++ rest) later (at.dirs ++ path ∷ [])) found) shown
        (walk_of end rest)
        → Leads (follow (at.front ++ rest) (steps at.front rest) at.dirs) shown (walk_of end rest)
    walked later found end parts is leads =
        subst (λ parts. Leads (follow (at.front ++ rest) parts at.dirs) shown (walk_of end rest)) (sym parts)
        (looked_at (path, tail) at.dirs (follow (at.front ++ rest) later (at.dirs ++ path ∷ [])) shown found
        (walk_of end rest) is leads)

    to_tail : steps at.front rest ≡ steps path tail
    to_tail = ap (steps at.front) (cut rest).whole ∙ over_plain name (cut rest).plain at.front tail

    -- What is no directory ends the walk.
    by_kind : (later : List (List ℕ × List ℕ)) → steps at.front rest ≡ (path, tail) ∷ later
        → (shown (KindOf path) ≡ kind.Dir → Found (suc levels) at rest)
        → (found : Kind) → shown (KindOf path) ≡ found → Found (suc levels) at rest
    by_kind later parts dir kind.Absent is = (
      absent_end shown at,
      absent_first is,
      walked later kind.Absent (absent_end shown at) parts is (stays_there _ shown),
    )
    by_kind later parts dir kind.File is = (
      file_end at name,
      named_first (file_end at name) (ap is_absent is)
          (ap (λ found. first_in (ends_by further at name found) rest) is
          ∙ ap (λ own. elim (own && true) [ true ↦ Some (file_end at name) | false ↦ None ]) own_name),
      walked later kind.File (file_end at name) parts is (stays_there _ shown),
    )
    by_kind later parts dir kind.Dir is = dir is

    at_name : tail ≡ [] → Found (suc levels) at rest
    at_name none = by_kind [] parts there (shown (KindOf path)) refl
      where
        parts : steps at.front rest ≡ (path, tail) ∷ []
        parts = to_tail ∙ ap (steps path) none ∙ at_end at.front name (cut rest).plain some
            ∙ ap (λ tail. (path, tail) ∷ []) (sym none)

        whole : at.front ++ rest ≡ at.front ++ name
        whole = ap (λ rest. at.front ++ rest)
            ((cut rest).whole ∙ ap (λ tail. name ++ tail) none ∙ append-nil name)

        there : shown (KindOf path) ≡ kind.Dir → Found (suc levels) at rest
        there is = (
          dir_end at name,
          named_first (dir_end at name) (ap is_absent is)
              (ap (λ found. first_in (ends_by further at name found) rest) is
              ∙ ap (λ own. elim (own && is_empty tail) [
                | true ↦ Some (dir_end at name)
                | false ↦ first_in (map (below name) (further (into at name))) rest
              ]) own_name
              ∙ ap (λ tail. elim (is_empty tail) [
                | true ↦ Some (dir_end at name)
                | false ↦ first_in (map (below name) (further (into at name))) rest
              ]) none),
          walked [] kind.Dir (dir_end at name) parts is
              (subst (λ text. Leads (leaves (ended text [] kind.Dir (at.dirs ++ path ∷ []))) shown
              (walk_of (dir_end at name) rest)) (sym whole) (stays_there _ shown)),
        )

    inside_it : (c : ℕ) (more : List ℕ) → tail ≡ c ∷ more → is_slash c ≡ true → Found
        (suc levels) at rest
    inside_it c more is_tail slashes = by_kind (steps (path ++ slash ∷ []) more) parts there (shown
        (KindOf path)) refl
      where
        is_one : c ≡ slash
        is_one = eqb-true c slash slashes

        parts : steps at.front rest ≡ (path, tail) ∷ steps (path ++ slash ∷ []) more
        parts = to_tail ∙ ap (steps path) is_tail ∙ at_slash path more c slashes
            ∙ ap₂ (λ tail c. (path, tail) ∷ steps (path ++ c ∷ []) more) (sym is_tail) is_one

        whole : at.front ++ rest ≡ (into at name).front ++ more
        whole = ap (λ rest. at.front ++ rest) ((cut rest).whole
            ∙ ap (λ tail. name ++ tail) (is_tail ∙ ap (λ c. c ∷ more) is_one))
            ∙ sym (append_assoc at.front name (slash ∷ more))
            ∙ sym (append_assoc path (slash ∷ []) more)

        next_single : has_double_slash (slash ∷ more) ≡ false
        next_single = single_behind name (slash ∷ more)
            (subst (λ rest. has_double_slash rest ≡ false)
            ((cut rest).whole ∙ ap (λ tail. name ++ tail) (is_tail ∙ ap (λ c. c ∷ more) is_one))
            later_single)

        next_stays : shown (KindOf path) ≡ kind.Dir → Stays levels (into at name)
        next_stays is =
            let longer = length-append path (slash ∷ []) in
            let of_path = length-append at.front name in record {
              names = listed.each path is;
              enough = omega (arith, stays.enough, longer, of_path);
              short = subst (λ length. length < most) (sym longer) (listed.short path is);
              slashed = last_of path slash [];
            }

        there : shown (KindOf path) ≡ kind.Dir → Found (suc levels) at rest
        there is =
            let found = each (into at name) more (next_stays is) next_single in
            let end = below name found.0 in (
              end,
              named_first end (ap is_absent is)
                  (ap (λ found. first_in (ends_by further at name found) rest) is
                  ∙ ap (λ own. elim (own && is_empty tail) [
                    | true ↦ Some (dir_end at name)
                    | false ↦ first_in (map (below name) (further (into at name))) rest
                  ]) own_name
                  ∙ ap (λ tail. elim (is_empty tail) [
                    | true ↦ Some (dir_end at name)
                    | false ↦ first_in (map (below name) (further (into at name))) rest
                  ]) is_tail
                  ∙ first_below name (further (into at name)) rest more c own_name is_tail slashes
                  ∙ ap (option_map (below name)) found.1),
              walked (steps (path ++ slash ∷ []) more) kind.Dir end parts is
                  (subst (λ text. Leads (follow text (steps (path ++ slash ∷ []) more)
                  (at.dirs ++ path ∷ [])) shown
                  (walk_of end rest)) (sym whole)
                  (subst (λ inside. Leads
                  (follow ((into at name).front ++ more) (steps (path ++ slash ∷ []) more)
                  (at.dirs ++ path ∷ [])) shown
                  (walk_of found.0 inside)) (sym (ap (drop 1) is_tail)) found.2)),
            )

    named_found : Found (suc levels) at rest
    named_found = elim (cut rest).next [
      | inl none ↦ at_name none
      | inr more ↦ inside_it more.0 more.1 more.2 more.3
    ]

  pub found_in : (levels : ℕ) → Each levels
  unfolding ends_in
  found_in zero at rest stays single = absurd (omega (arith, stays.enough, stays.short))
  found_in (suc levels) at [] stays single = (
    front_end at,
    refl,
    subst (λ parts. Leads (follow (at.front ++ []) parts at.dirs) shown (walk_of (front_end at) []))
        (sym (ap (λ slash. if slash then [] else (at.front, []) ∷ []) stays.slashed))
        (subst (λ text. Leads (leaves (ended text [] kind.Dir at.dirs)) shown (walk_of (front_end at) []))
        (sym (append-nil at.front)) (stays_there _ shown)),
  )
  found_in (suc levels) at (b ∷ bs) stays single = named_found levels (found_in levels) at stays b bs single

-- ---- the plan

module _ (levels : ℕ) (shown : Shown) (state : State) (listed : IsListed levels shown) where
  abbrev ends : List WalkEnd
  ends = ends_in levels shown at_root

  walked_to : (b : ℕ) (rest : List ℕ) → pick state.texts main ≡ b ∷ rest → is_slash b ≡ true
      → has_double_slash (b ∷ rest) ≡ false
      → Like (WalkLike state) (plan_run (arrived (end_at ends (place_in 0 (map rooted ends)
      (pick state.texts main)))) state)
      (run (walk (pick state.texts main)) shown)
  unfolding plan_run walk
  walked_to b rest is slashes single =
      let is_one = eqb-true b slash slashes in
      let found = found_in levels shown listed levels at_root rest (record {
        names = listed.at_root;
        enough = omega arith;
        short = listed.some;
        slashed = refl;
      }) (subst (λ b. has_double_slash (b ∷ rest) ≡ false) is_one single) in
      let to_end = ap (λ text. end_at ends (place_in 0 (map rooted ends) text)) is ∙ placed ends b rest slashes
      ∙ found.1 in
      let own = found.0 in
      let text = pick state.texts main in
      let info = ap (λ text. own.info (drop 1 text)) is in
      let name = ap (λ text. own.name (drop 1 text)) is in
      let quiet = subst (λ text. Leads (walk text) shown (walk_of levels shown listed own rest))
      (sym (is ∙ ap (λ b. b ∷ rest) is_one)) found.2 in
      subst (λ found. Like (WalkLike state) (plan_run (arrived found) state) (run (walk text) shown)) (sym to_end) (
        walk_of levels shown listed own rest,
        quiet.1,
        ap decisions_in quiet.0,
        ap₂ (stored_at state) name info,
        refl,
        refl,
      )

  pub walk_like : begins_with_slash (pick state.texts main) ≡ true
      → has_double_slash (pick state.texts main) ≡ false
      → Like (WalkLike state) (plan_run (walk_plan ends) state) (run (walk (pick state.texts main)) shown)
  unfolding plan_run walk_plan
  walk_like begins single = by (pick state.texts main) refl begins single
    where
      by : (text : List ℕ) → pick state.texts main ≡ text → begins_with_slash text ≡ true
          → has_double_slash text ≡ false
          → Like (WalkLike state)
          (plan_run (arrived (end_at ends (place_in 0 (map rooted ends) (pick state.texts main)))) state)
          (run (walk (pick state.texts main)) shown)
      by [] is begins single = absurd (true≢false (sym begins))
      by (b ∷ rest) is begins single = walked_to b rest is begins single
