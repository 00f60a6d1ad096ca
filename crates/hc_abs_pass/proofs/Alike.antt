-- The ends that code lists are those of the plan, each with the same texts, names and path information.
use Rattle.hc_abs_pass.proofs.Common.{◌≡◌, ◌∙◌, ℕ, zero, suc, List, [], ◌∷◌, ◌++◌, map, drop, Bool, true, false, not}
use Rattle.hc_abs_pass.proofs.Common.{◌&&◌, ◌||◌, refl, sym, ap, subst, ◌⊎◌, inl, inr, true≢false, append_assoc}
use Rattle.hc_abs_pass.proofs.Common.{append-nil, eqb-true, Shown}
use Rattle.std.proofs.lemmas.Bool.{and_from, and_parts}
use Rattle.std.specs.List.{flat_map, list_any}
use Rattle.std.specs.Str.{bytes_eq}
use Rattle.hc_base.specs.Bytes.{slash}
use Rattle.hc_base.specs.Paths.{ends_with_slash, is_slash}
use Rattle.hc_dfa.specs.Texts.{TextSet}
use Rattle.hc_model.specs.World.{root}
use Rattle.hc_model.specs.declared.read.Read.TheVariants.{KindOf}
use Rattle.hc_model.specs.declared.walk.Kind.{Kind}
use Rattle.hc_model.specs.declared.walk.Kind.TheVariants as kind
use Rattle.hc_plan.proofs.Coded.{both_fit}
use Rattle.hc_plan.proofs.Slots.{own_bytes, same_bytes}
use Rattle.hc_plan.specs.Coded.{AllFit}
use Rattle.hc_plan.specs.Cover.{Among}
use Rattle.hc_steps.specs.Step.{Path}
use Rattle.hc_abs_pass.proofs.Components.{both_ways, cut, cut_at, none_left, tail_has_none}
use Rattle.hc_abs_pass.proofs.Walks.{last_of, no_last}
use Rattle.hc_abs_pass.specs.Walking.{all_in, file_at, found_by, found_named, inside, other_named, rests_of}
use Rattle.hc_abs_pass.specs.Walking.{root_directory, slashed, unslashed, with_none}
use Rattle.hc_abs_pass.specs.Walks.{AreNames, Followed, IsListed, WalkEnd, absent_end, any_rest, at_root}
use Rattle.hc_abs_pass.specs.Walks.{behind_component, behind_slash, below, component, dir_end, ends_by, ends_in}
use Rattle.hc_abs_pass.specs.Walks.{ends_named, file_end, front_end, is_absent, is_empty, named_then, names_at}
use Rattle.hc_abs_pass.specs.declared.walk_ends.Directory.{Directory}
use Rattle.hc_abs_pass.specs.declared.walk_ends.End.{End}

-- An end has the texts, names and path information of the code's, read behind a base.
pub record IsEnd (base : List ℕ) (code : End) (end : WalkEnd) : Type 0 where
  pub own : List ℕ
  pub front : code.front ≡ base ++ own
  pub to : (rest : List ℕ) → end.rests rest ≡ true
      → (tail : List ℕ) × (rest ≡ own ++ tail) × (rests_of code.behind tail ≡ true)
  pub from : (tail : List ℕ) → rests_of code.behind tail ≡ true → end.rests (own ++ tail) ≡ true
  pub name : (tail : List ℕ) → rests_of code.behind tail ≡ true
      → end.name (own ++ tail) ≡ code.front ++ component tail
  pub info : (tail : List ℕ) → rests_of code.behind tail ≡ true → end.info (own ++ tail) ≡ behind_component tail
  pub kind : end.kind ≡ code.kind
  pub dirs : end.dirs ≡ code.dirs

abbrev pub followed_of : Directory → Followed
followed_of at = record { front = at.front; path = at.path; dirs = at.dirs }

-- ---- worlds

-- Each name that is shown is a component by which something stands there.
pub record IsName (shown : Shown) (front name : List ℕ) : Type 0 where
  pub plain : list_any is_slash name ≡ false
  pub some : is_empty name ≡ false
  pub there : is_absent (shown (KindOf (front ++ name))) ≡ false

abbrev pub StandThere : Shown → Path → Path → Type 0
StandThere shown path front = (name : List ℕ) → Among name (names_at shown path) → IsName shown front name

-- What holds of each world, where directories are entered.
pub record IsSeen (shown : Shown) : Type 0 where
  pub at_root : StandThere shown root root
  pub each : (path : Path) → ends_with_slash path ≡ false → shown (KindOf path) ≡ kind.Dir
      → StandThere shown path (path ++ slash ∷ [])

-- A path that a name ends, ends with no slash.
pub named_end : (front name : List ℕ) → list_any is_slash name ≡ false → is_empty name ≡ false
    → ends_with_slash (front ++ name) ≡ false
named_end front [] plain some = absurd (true≢false some)
named_end front (b ∷ name) plain some = last_of front b name ∙ no_last b name plain

-- ---- components

none_tail : (tail : List ℕ) → is_empty tail ≡ true → is_empty (component tail) ≡ true
none_tail tail none = ap (λ tail. is_empty (component tail)) (none_left tail none)

named_to : (name : List ℕ) (set : TextSet) (rest : List ℕ) → named_then name set rest ≡ true
    → (tail : List ℕ) × (rest ≡ name ++ tail) × (is_empty (component tail) ≡ true) × (set tail ≡ true)
named_to name set rest is =
    let parts = and_parts (bytes_eq (component rest) name) (set (behind_component rest)) is in (
      behind_component rest,
      (cut rest).whole ∙ ap (λ own. own ++ behind_component rest) (same_bytes (component rest) name parts.0),
      tail_has_none rest,
      parts.1,
    )

named_from : (name : List ℕ) (set : TextSet) (tail : List ℕ) → list_any is_slash name ≡ false
    → is_empty (component tail) ≡ true → set tail ≡ true → named_then name set (name ++ tail) ≡ true
named_from name set tail plain none is =
    let at = cut_at name tail plain none in
    and_from (bytes_eq (component (name ++ tail)) name) (set (behind_component (name ++ tail)))
    (ap (λ own. bytes_eq own name) at.0 ∙ own_bytes name) (ap set at.1 ∙ is)

-- ---- ends

slashed_is : (at : Directory) → IsEnd at.front (slashed at) (front_end (followed_of at))
slashed_is at = record {
  own = [];
  front = sym (append-nil at.front);
  to = λ rest is. (rest, refl, is);
  from = λ tail is. is;
  name = λ tail is. sym (append-nil at.front) ∙ ap (λ tail. at.front ++ component tail) (sym (none_left tail is));
  info = λ tail is. ap behind_component (sym (none_left tail is));
  kind = refl;
  dirs = refl;
}

unslashed_is : (at : Directory) (name : List ℕ) → list_any is_slash name ≡ false
    → IsEnd at.front (unslashed (inside at (at.front ++ name))) (dir_end (followed_of at) name)
unslashed_is at name plain = record {
  own = name;
  front = refl;
  to = λ rest is. let of = named_to name is_empty rest is in (of.0, of.1, of.3);
  from = λ tail is. named_from name is_empty tail plain (none_tail tail is) is;
  name = λ tail is.
      sym (append-nil (at.front ++ name))
      ∙ ap (λ tail. (at.front ++ name) ++ component tail) (sym (none_left tail is));
  info = λ tail is. ap behind_component (sym (none_left tail is));
  kind = refl;
  dirs = refl;
}

file_is : (at : Directory) (name : List ℕ) → list_any is_slash name ≡ false
    → IsEnd at.front (file_at at (at.front ++ name)) (file_end (followed_of at) name)
file_is at name plain = record {
  own = name;
  front = refl;
  to = λ rest is. let of = named_to name any_rest rest is in (of.0, of.1, of.2);
  from = λ tail is. named_from name any_rest tail plain is refl;
  name = λ tail is.
      sym (append-nil (at.front ++ name))
      ∙ ap (λ own. (at.front ++ name) ++ own) (sym (none_left (component tail) is));
  info = λ tail is. (cut_at name tail plain is).1 ∙ sym (tail_alone tail is);
  kind = refl;
  dirs = refl;
}
  where
    tail_alone : (tail : List ℕ) → is_empty (component tail) ≡ true → behind_component tail ≡ tail
    tail_alone tail is = (cut_at [] tail refl is).1

-- An end in a directory below.
below_is : (at : Directory) (name : List ℕ) (code : End) (end : WalkEnd) → list_any is_slash name ≡ false
    → IsEnd (inside at (at.front ++ name)).front code end → IsEnd at.front code (below name end)
below_is at name code end plain is = record {
  own = name ++ slash ∷ is.own;
  front = is.front ∙ append_assoc (at.front ++ name) (slash ∷ []) is.own
      ∙ append_assoc at.front name (slash ∷ is.own);
  to = to;
  from = λ tail within.
      subst (λ rest. (below name end).rests rest ≡ true) (sym (whole tail))
      (named_from name (behind_slash end.rests) (slash ∷ is.own ++ tail) plain refl (is.from tail within));
  name = λ tail within. ap (λ rest. end.name rest) (inner_is tail) ∙ is.name tail within;
  info = λ tail within. ap (λ rest. end.info rest) (inner_is tail) ∙ is.info tail within;
  kind = is.kind;
  dirs = is.dirs;
}
  where
    whole : (tail : List ℕ) → (name ++ slash ∷ is.own) ++ tail ≡ name ++ slash ∷ (is.own ++ tail)
    whole tail = append_assoc name (slash ∷ is.own) tail

    inner_is : (tail : List ℕ) → drop 1 (behind_component ((name ++ slash ∷ is.own) ++ tail)) ≡ is.own ++ tail
    inner_is tail = ap (λ rest. drop 1 (behind_component rest)) (whole tail)
        ∙ ap (drop 1) (cut_at name (slash ∷ is.own ++ tail) plain refl).1

    behind : (rest tail : List ℕ) → rest ≡ name ++ tail → behind_slash end.rests tail ≡ true
        → (more : List ℕ) × (rest ≡ (name ++ slash ∷ is.own) ++ more) × (rests_of code.behind more ≡ true)
    behind rest [] is_rest within = absurd (true≢false (sym within))
    behind rest (b ∷ tail) is_rest within =
        let parts = and_parts (is_slash b) (end.rests tail) within in
        let of = is.to tail parts.1 in (
          of.0,
          is_rest ∙ ap (λ b. name ++ b ∷ tail) (eqb-true b slash parts.0)
              ∙ ap (λ tail. name ++ slash ∷ tail) of.1 ∙ sym (whole of.0),
          of.2,
        )

    to : (rest : List ℕ) → (below name end).rests rest ≡ true
        → (tail : List ℕ) × (rest ≡ (name ++ slash ∷ is.own) ++ tail) × (rests_of code.behind tail ≡ true)
    to rest within =
        let of = named_to name (behind_slash end.rests) rest within in behind rest of.0 of.1 of.3

-- ---- components by which nothing stands there

pub among_any : (own : List ℕ) (names : List (List ℕ)) → Among own names → list_any (bytes_eq own) names ≡ true
among_any own [] among = absurd among
among_any own (name ∷ names) (inl same) =
    ap (λ name. bytes_eq own name || list_any (bytes_eq own) names) (sym same)
    ∙ ap (λ is. is || list_any (bytes_eq own) names) (own_bytes own)
among_any own (name ∷ names) (inr among) = or_right (bytes_eq own name) _ (among_any own names among)
  where
    or_right : (one other : Bool) → other ≡ true → (one || other) ≡ true
    or_right true other is = refl
    or_right false other is = is

pub any_among : (own : List ℕ) (names : List (List ℕ)) → list_any (bytes_eq own) names ≡ true → Among own names
any_among own [] any = absurd (true≢false (sym any))
any_among own (name ∷ names) any = by (bytes_eq own name) refl (any_among own names) any
  where
    by : (is : Bool) → bytes_eq own name ≡ is → (list_any (bytes_eq own) names ≡ true → Among own names)
        → (is || list_any (bytes_eq own) names) ≡ true → (own ≡ name) ⊎ Among own names
    by true same later any = inl (same_bytes own name same)
    by false same later any = inr (later any)

among_last : (own : List ℕ) (names : List (List ℕ)) (last : List ℕ) → Among own (names ++ last ∷ [])
    → Among own names ⊎ (own ≡ last)
among_last own [] last (inl same) = inr same
among_last own [] last (inr none) = absurd none
among_last own (name ∷ names) last (inl same) = inl (inl same)
among_last own (name ∷ names) last (inr among) = by (among_last own names last among)
  where
    by : (Among own names ⊎ (own ≡ last)) → Among own (name ∷ names) ⊎ (own ≡ last)
    by (inl there) = inl (inr there)
    by (inr same) = inr same

last_among : (names : List (List ℕ)) (last : List ℕ) → Among last (names ++ last ∷ [])
last_among [] last = inl refl
last_among (name ∷ names) last = inr (last_among names last)

first_among : (own : List ℕ) (names : List (List ℕ)) (last : List ℕ) → Among own names
    → Among own (names ++ last ∷ [])
first_among own [] last among = absurd among
first_among own (name ∷ names) last (inl same) = inl same
first_among own (name ∷ names) last (inr among) = inr (first_among own names last among)

module _ (shown : Shown) (at : Directory) (listed : AreNames shown at.path at.front)
    (stand : StandThere shown at.path at.front) where
  abbrev names : List (List ℕ)
  names = names_at shown at.path

  -- By a component without a slash something stands there exactly where it is listed.
  present : (own : List ℕ) → list_any is_slash own ≡ false
      → is_absent (shown (KindOf (at.front ++ own)))
      ≡ not (list_any (bytes_eq own) (with_none (is_absent (shown (KindOf at.front))) names))
  present own plain = both_ways _ _ (absent (is_absent (shown (KindOf at.front))) refl)
      (not_listed (is_absent (shown (KindOf at.front))) refl)
    where
      false_or : (is : Bool) → (is ≡ true → ⊥) → not is ≡ true
      false_or true wrong = absurd (wrong refl)
      false_or false wrong = refl

      front_is : own ≡ [] → is_absent (shown (KindOf (at.front ++ own))) ≡ is_absent (shown (KindOf at.front))
      front_is none = ap (λ own. is_absent (shown (KindOf (at.front ++ own)))) none
          ∙ ap (λ path. is_absent (shown (KindOf path))) (append-nil at.front)

      absent : (none : Bool) → is_absent (shown (KindOf at.front)) ≡ none
          → is_absent (shown (KindOf (at.front ++ own))) ≡ true
          → not (list_any (bytes_eq own) (with_none none names)) ≡ true
      absent true is not_there = false_or _ (λ any.
          true≢false (sym not_there ∙ (stand own (any_among own names any)).there))
      absent false is not_there = false_or _ (λ any.
          elim (among_last own names [] (any_among own (names ++ [] ∷ []) any)) [
            | inl among ↦ true≢false (sym not_there ∙ (stand own among).there)
            | inr none ↦ true≢false (sym not_there ∙ front_is none ∙ is)
          ])

      there : (none : Bool) → is_absent (shown (KindOf at.front)) ≡ none
          → is_absent (shown (KindOf (at.front ++ own))) ≡ false → (empty : Bool) → is_empty own ≡ empty
          → Among own (with_none none names)
      there true is stands true empty =
          absurd (true≢false (sym is ∙ sym (front_is (none_left own empty)) ∙ stands))
      there false is stands true empty = subst (λ own. Among own (names ++ [] ∷ [])) (sym (none_left own empty))
          (last_among names [])
      there true is stands false some = listed own some plain stands
      there false is stands false some = first_among own names [] (listed own some plain stands)

      not_listed : (none : Bool) → is_absent (shown (KindOf at.front)) ≡ none
          → not (list_any (bytes_eq own) (with_none none names)) ≡ true
          → is_absent (shown (KindOf (at.front ++ own))) ≡ true
      not_listed none is other = by (is_absent (shown (KindOf (at.front ++ own)))) refl
        where
          by : (absent : Bool) → is_absent (shown (KindOf (at.front ++ own))) ≡ absent → absent ≡ true
          by true absent = refl
          by false absent = absurd (true≢false (sym (sym (ap not (among_any own (with_none none names)
              (there none is absent (is_empty own) refl))) ∙ other)))

  other_is : IsEnd at.front (other_named shown at names) (absent_end shown (followed_of at))
  other_is = record {
    own = [];
    front = sym (append-nil at.front);
    to = λ rest is. (
      rest,
      refl,
      ap (λ there. not (is_empty rest) && there) (sym (present (component rest) (cut rest).plain)) ∙ is,
    );
    from = λ tail is. ap (λ there. not (is_empty tail) && there) (present (component tail) (cut tail).plain) ∙ is;
    name = λ tail is. refl;
    info = λ tail is. refl;
    kind = refl;
    dirs = refl;
  }

-- ---- lists of ends

below_all : (at : Directory) (name : List ℕ) (codes : List End) (ends : List WalkEnd) → list_any is_slash name ≡ false
    → AllFit (IsEnd (inside at (at.front ++ name)).front) codes ends
    → AllFit (IsEnd at.front) codes (map (below name) ends)
below_all at name [] ends plain fit = ap (map (below name)) fit
below_all at name (code ∷ codes) ends plain fit = (
  below name fit.0,
  map (below name) fit.1,
  ap (map (below name)) fit.2,
  below_is at name code fit.0 plain fit.3,
  below_all at name codes fit.1 plain fit.4,
)

module _ (most : ℕ) (shown : Shown) (listed : IsListed most shown) (seen : IsSeen shown) where
  abbrev Each : ℕ → Type 0
  Each levels = (at : Directory) → AreNames shown at.path at.front → StandThere shown at.path at.front
      → AllFit (IsEnd at.front) (all_in levels shown at) (ends_in levels shown (followed_of at))

  named_fit : (levels : ℕ) → Each levels → (at : Directory) (name : List ℕ) → IsName shown at.front name
      → AllFit (IsEnd at.front) (found_named (λ at. all_in levels shown at) shown at name)
      (ends_named (λ at. ends_in levels shown at) shown (followed_of at) name)
  named_fit levels each at name named = by (shown (KindOf (at.front ++ name))) refl
    where
      by : (found : Kind) → shown (KindOf (at.front ++ name)) ≡ found
          → AllFit (IsEnd at.front) (found_by (λ at. all_in levels shown at) at (at.front ++ name) found)
          (ends_by (λ at. ends_in levels shown at) (followed_of at) name found)
      by kind.Absent is = refl
      by kind.File is = (file_end (followed_of at) name, [], refl, file_is at name named.plain, refl)
      by kind.Dir is =
          let down = inside at (at.front ++ name) in
          let further = ends_in levels shown (followed_of down) in (
            dir_end (followed_of at) name,
            map (below name) further,
            refl,
            unslashed_is at name named.plain,
            below_all at name (all_in levels shown down) further named.plain
                (each down (listed.each (at.front ++ name) is)
                (seen.each (at.front ++ name) (named_end at.front name named.plain named.some) is)),
          )

  all_named : (levels : ℕ) → Each levels → (at : Directory) (names : List (List ℕ))
      → ((name : List ℕ) → Among name names → IsName shown at.front name)
      → AllFit (IsEnd at.front) (flat_map (found_named (λ at. all_in levels shown at) shown at) names)
      (flat_map (ends_named (λ at. ends_in levels shown at) shown (followed_of at)) names)
  all_named levels each at [] are = refl
  all_named levels each at (name ∷ names) are =
      both_fit (IsEnd at.front) (found_named (λ at. all_in levels shown at) shown at name) _ _ _
      (named_fit levels each at name (are name (inl refl)))
      (all_named levels each at names (λ name among. are name (inr among)))

  pub ends_fit : (levels : ℕ) → Each levels
  unfolding all_in ends_in
  ends_fit zero at are stand = refl
  ends_fit (suc levels) at are stand = (
    front_end (followed_of at),
    _,
    refl,
    slashed_is at,
    both_fit (IsEnd at.front)
        (flat_map (found_named (λ at. all_in levels shown at) shown at) (names_at shown at.path)) _ _ _
        (all_named levels (ends_fit levels) at (names_at shown at.path) stand)
        (absent_end shown (followed_of at), [], refl, other_is shown at are stand, refl),
  )

  pub root_fit : AllFit (IsEnd root) (all_in most shown root_directory) (ends_in most shown at_root)
  root_fit = ends_fit most root_directory listed.at_root seen.at_root
