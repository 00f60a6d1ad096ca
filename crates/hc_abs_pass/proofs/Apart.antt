-- No text has two ends.
use Rattle.hc_abs_pass.proofs.Common.{◌≡◌, ◌∙◌, ℕ, zero, suc, List, [], ◌∷◌, ◌++◌, map, Bool, true, false, not}
use Rattle.hc_abs_pass.proofs.Common.{refl, sym, ap, inl, inr, true≢false, Shown}
use Rattle.std.proofs.lemmas.Bool.{and_parts}
use Rattle.std.specs.List.{AllByRecursion, IsDistinct, flat_map}
use Rattle.std.specs.Str.{bytes_eq}
use Rattle.hc_base.specs.Paths.{begins_with_slash, is_slash}
use Rattle.hc_dfa.specs.Texts.{TextSet}
use Rattle.hc_model.specs.World.{root}
use Rattle.hc_model.specs.declared.read.Read.TheVariants.{KindOf}
use Rattle.hc_model.specs.declared.walk.Kind.{Kind}
use Rattle.hc_model.specs.declared.walk.Kind.TheVariants as kind
use Rattle.hc_plan.proofs.Slots.{own_bytes, same_bytes}
use Rattle.hc_plan.specs.Cover.{Among}
use Rattle.hc_steps.specs.Step.{Path}
use Rattle.hc_abs_pass.proofs.Alike.{IsName, IsSeen, StandThere, named_end}
use Rattle.hc_abs_pass.proofs.Components.{none_left}
use Rattle.hc_abs_pass.proofs.Finding.{all_both}
use Rattle.hc_abs_pass.specs.Walks.{Followed, IsListed, WalkEnd, absent_end, any_rest, at_root, behind_component}
use Rattle.hc_abs_pass.specs.Walks.{behind_slash, below, component, dir_end, ends_by, ends_in, ends_named, front_end}
use Rattle.hc_abs_pass.specs.Walks.{into, is_absent, is_empty, named_then, names_at}

-- ---- lists

abbrev pub Apart : TextSet → TextSet → Type 0
Apart one other = (text : List ℕ) → one text ≡ true → other text ≡ true → ⊥

abbrev pub ApartFrom : WalkEnd → List WalkEnd → Type 0
ApartFrom end ends = AllByRecursion (λ other. Apart end.rests other.rests) ends

abbrev pub AreApart : List WalkEnd → Type 0
AreApart [] = Unit {0}
AreApart (end ∷ ends) = ApartFrom end ends × AreApart ends

pub all_also : {X : Type 0} (P Q : X → Type 0) (xs : List X) → ((x : X) → P x → Q x) → AllByRecursion P xs
    → AllByRecursion Q xs
all_also P Q [] also all = tt
all_also P Q (x ∷ xs) also all = (also x all.0, all_also P Q xs also all.1)

apart_both : (one other : List WalkEnd) → AreApart one → AreApart other
    → AllByRecursion (λ end. ApartFrom end other) one → AreApart (one ++ other)
apart_both [] other first rest cross = rest
apart_both (end ∷ one) other first rest cross = (
  all_both (λ other. Apart end.rests other.rests) one other first.0 cross.0,
  apart_both one other first.1 rest cross.1,
)

-- ---- the ends of one name

-- The first component of its texts is a name that something has there.
abbrev IsNamed : List ℕ → WalkEnd → Type 0
IsNamed name end = (rest : List ℕ) → end.rests rest ≡ true → component rest ≡ name

named_is : (name : List ℕ) (set : TextSet) (rest : List ℕ) → named_then name set rest ≡ true → component rest ≡ name
named_is name set rest is =
    same_bytes (component rest) name (and_parts (bytes_eq (component rest) name) (set (behind_component rest)) is).0

below_named : (name : List ℕ) (ends : List WalkEnd) → AllByRecursion (IsNamed name) (map (below name) ends)
below_named name [] = tt
below_named name (end ∷ ends) = (named_is name (behind_slash end.rests), below_named name ends)

below_apart : (name : List ℕ) (one other : TextSet) → Apart one other
    → Apart (named_then name (behind_slash one)) (named_then name (behind_slash other))
below_apart name one other apart rest is also =
    by (behind_component rest)
    (and_parts (bytes_eq (component rest) name) (behind_slash one (behind_component rest)) is).1
    (and_parts (bytes_eq (component rest) name) (behind_slash other (behind_component rest)) also).1
  where
    by : (tail : List ℕ) → behind_slash one tail ≡ true → behind_slash other tail ≡ true → ⊥
    by [] is also = true≢false (sym is)
    by (b ∷ tail) is also =
        apart tail (and_parts (is_slash b) (one tail) is).1 (and_parts (is_slash b) (other tail) also).1

below_from : (name : List ℕ) (end : WalkEnd) (ends : List WalkEnd) → ApartFrom end ends
    → ApartFrom (below name end) (map (below name) ends)
below_from name end [] apart = tt
below_from name end (other ∷ ends) apart =
    (below_apart name end.rests other.rests apart.0, below_from name end ends apart.1)

below_all : (name : List ℕ) (ends : List WalkEnd) → AreApart ends → AreApart (map (below name) ends)
below_all name [] apart = tt
below_all name (end ∷ ends) apart = (below_from name end ends apart.0, below_all name ends apart.1)

-- A directory's own name is none of what is in it.
own_from : (at : Followed) (name : List ℕ) (ends : List WalkEnd) → ApartFrom (dir_end at name) (map (below name) ends)
own_from at name [] = tt
own_from at name (end ∷ ends) = (
  (λ rest is also. by (behind_component rest) (and_parts (bytes_eq (component rest) name) (is_empty
      (behind_component rest)) is).1 (and_parts (bytes_eq (component rest) name) (behind_slash end.rests
      (behind_component rest)) also).1),
  own_from at name ends,
)
  where
    by : (tail : List ℕ) → is_empty tail ≡ true → behind_slash end.rests tail ≡ true → ⊥
    by [] is also = true≢false (sym also)
    by (b ∷ tail) is also = true≢false (sym is)

module _ (most : ℕ) (shown : Shown) (listed : IsListed most shown) (seen : IsSeen shown)
    (distinct : (path : Path) → IsDistinct bytes_eq (names_at shown path)) where
  module _ (levels : ℕ) (at : Followed) (stand : StandThere shown at.path at.front) (each : (at : Followed)
      → StandThere shown at.path at.front → AreApart (ends_in levels shown at)) where
    abbrev named : List ℕ → List WalkEnd
    named = ends_named (λ at. ends_in levels shown at) shown at

    of_name : (name : List ℕ) → IsName shown at.front name
        → AreApart (named name) × AllByRecursion (IsNamed name) (named name)
    of_name name own = by (shown (KindOf (at.front ++ name))) refl
      where
        by : (found : Kind) → shown (KindOf (at.front ++ name)) ≡ found
            → AreApart (ends_by (λ at. ends_in levels shown at) at name found)
            × AllByRecursion (IsNamed name) (ends_by (λ at. ends_in levels shown at) at name found)
        by kind.Absent is = (tt, tt)
        by kind.File is = ((tt, tt), (named_is name any_rest, tt))
        by kind.Dir is =
            let further = ends_in levels shown (into at name) in (
              (
                own_from at name further,
                below_all name further (each (into at name)
                    (seen.each (at.front ++ name) (named_end at.front name own.plain own.some) is)),
              ),
              (named_is name is_empty, below_named name further),
            )

    -- Each end has one of the names.
    abbrev IsOf : List (List ℕ) → WalkEnd → Type 0
    IsOf names end = (name : List ℕ) × Among name names × IsNamed name end

    abbrev AreNamed : List (List ℕ) → Type 0
    AreNamed names = (name : List ℕ) → Among name names → IsName shown at.front name

    of_names : (names : List (List ℕ)) → AreNamed names → AllByRecursion (IsOf names) (flat_map named names)
    of_names [] are = tt
    of_names (name ∷ names) are = all_both (IsOf (name ∷ names)) (named name) (flat_map named names)
        (all_also (IsNamed name) (IsOf (name ∷ names)) (named name) (λ end is. (name, inl refl, is))
        (of_name name (are name (inl refl))).1)
        (all_also (IsOf names) (IsOf (name ∷ names)) (flat_map named names) (λ end is. (is.0, inr is.1, is.2))
        (of_names names (λ name among. are name (inr among))))

    other_name : (own name : List ℕ) (names : List (List ℕ))
        → AllByRecursion (λ other. bytes_eq own other ≡ false) names
        → Among name names → own ≡ name → ⊥
    other_name own name [] others among same = among
    other_name own name (first ∷ names) others (inl is) same =
        true≢false (sym (own_bytes own) ∙ ap (bytes_eq own) (same ∙ is) ∙ others.0)
    other_name own name (first ∷ names) others (inr among) same = other_name own name names others.1 among same

    all_apart : (names : List (List ℕ)) → AreNamed names → IsDistinct bytes_eq names → AreApart (flat_map named names)
    unfolding IsDistinct
    all_apart [] are distinct = tt
    all_apart (name ∷ names) are distinct =
        let first = of_name name (are name (inl refl)) in
        let rest : AreNamed names = λ name among. are name (inr among) in
        apart_both (named name) (flat_map named names) first.0 (all_apart names rest distinct.1)
        (all_also (IsNamed name) (λ end. ApartFrom end (flat_map named names)) (named name)
        (λ end is. all_also (IsOf names) (λ other. Apart end.rests other.rests) (flat_map named names)
        (λ other of rest own also. other_name name of.0 names distinct.0 of.1 (sym (is rest own) ∙ of.2 rest also))
        (of_names names rest)) first.1)

    some_names : (end : WalkEnd) → IsOf (names_at shown at.path) end → Apart (front_end at).rests end.rests
    some_names end of rest none is =
        true≢false (ap is_empty (sym (ap component (none_left rest none)) ∙ of.2 rest is)
        ∙ (stand of.0 of.1).some)

    absent_other : (end : WalkEnd) → IsOf (names_at shown at.path) end → Apart end.rests (absent_end shown at).rests
    absent_other end of rest is absent =
        true≢false (sym (and_parts (not (is_empty rest)) (is_absent (shown (KindOf (at.front ++ component rest))))
        absent).1
        ∙ ap (λ own. is_absent (shown (KindOf (at.front ++ own)))) (of.2 rest is) ∙ (stand of.0 of.1).there)

    absent_front : Apart (front_end at).rests (absent_end shown at).rests
    absent_front rest none absent =
        true≢false (sym (and_parts (not (is_empty rest)) (is_absent (shown (KindOf (at.front ++ component rest))))
        absent).0
        ∙ ap not none)

    one_more : AreApart (front_end at ∷ flat_map named (names_at shown at.path) ++ absent_end shown at ∷ [])
    one_more = (
      all_both (λ other. Apart (front_end at).rests other.rests) (flat_map named (names_at shown at.path)) _
          (all_also (IsOf (names_at shown at.path)) (λ other. Apart (front_end at).rests other.rests)
          (flat_map named (names_at shown at.path)) some_names (of_names (names_at shown at.path) stand))
          (absent_front, tt),
      apart_both (flat_map named (names_at shown at.path)) (absent_end shown at ∷ [])
          (all_apart (names_at shown at.path) stand (distinct at.path)) (tt, tt)
          (all_also (IsOf (names_at shown at.path)) (λ end. ApartFrom end (absent_end shown at ∷ []))
          (flat_map named (names_at shown at.path)) (λ end of. (absent_other end of, tt))
          (of_names (names_at shown at.path) stand)),
    )

  pub ends_apart : (levels : ℕ) (at : Followed) → StandThere shown at.path at.front → AreApart (ends_in levels shown at)
  unfolding ends_in
  ends_apart zero at stand = tt
  ends_apart (suc levels) at stand = one_more levels at stand (ends_apart levels)

  pub root_apart : AreApart (ends_in most shown at_root)
  root_apart = ends_apart most at_root seen.at_root

  -- What follows the slash of the root begins with none.
  pub none_slashed : (levels : ℕ)
      → AllByRecursion (λ end. (rest : List ℕ) → end.rests rest ≡ true → begins_with_slash rest ≡ false)
      (ends_in levels shown at_root)
  unfolding ends_in
  none_slashed zero = tt
  none_slashed (suc levels) = (
    (λ rest none. ap begins_with_slash (none_left rest none)),
    all_both Plain (flat_map names_of (names_at shown root)) (absent_end shown at_root ∷ [])
        (all_also (IsOf levels at_root seen.at_root (ends_apart levels) (names_at shown root)) Plain
        (flat_map names_of (names_at shown root)) of_name_plain
        (of_names levels at_root seen.at_root (ends_apart levels) (names_at shown root) seen.at_root))
        (absent_plain, tt),
  )
    where
      Plain : WalkEnd → Type 0
      Plain end = (rest : List ℕ) → end.rests rest ≡ true → begins_with_slash rest ≡ false

      names_of : List ℕ → List WalkEnd
      names_of = ends_named (λ at. ends_in levels shown at) shown at_root

      component_none : (rest : List ℕ) → begins_with_slash rest ≡ true → component rest ≡ []
      component_none [] is = refl
      component_none (b ∷ rest) is = ap (λ is. elim is [ true ↦ [] | false ↦ b ∷ component rest ]) is

      by : (slashed : Bool) → (slashed ≡ true → ⊥) → slashed ≡ false
      by true wrong = absurd (wrong refl)
      by false wrong = refl

      of_name_plain : (end : WalkEnd) → IsOf levels at_root seen.at_root (ends_apart levels) (names_at shown root) end
          → Plain end
      of_name_plain end of rest is = by (begins_with_slash rest) (λ slashed.
          true≢false (ap is_empty (sym (component_none rest slashed) ∙ of.2 rest is)
          ∙ (seen.at_root of.0 of.1).some))

      absent_plain : Plain (absent_end shown at_root)
      absent_plain rest is = by (begins_with_slash rest) (λ slashed.
          true≢false (sym (and_parts (not (is_empty rest)) (is_absent (shown (KindOf (root ++ component rest)))) is).1
          ∙ ap (λ own. is_absent (shown (KindOf (root ++ own)))) (component_none rest slashed) ∙ listed.root_stands))
