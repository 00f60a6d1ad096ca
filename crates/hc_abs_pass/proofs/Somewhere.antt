-- Each text that begins with one slash has an end, and no other has.
use Rattle.hc_abs_pass.proofs.Common.{◌≡◌, ◌∙◌, ℕ, zero, suc, ◌+◌, ◌<◌, ◌≤◌, List, [], ◌∷◌, ◌++◌, map, length}
use Rattle.hc_abs_pass.proofs.Common.{Bool, true, false, not, refl, sym, ap, subst, inl, inr, true≢false, arith}
use Rattle.hc_abs_pass.proofs.Common.{append-nil, length-append, Shown}
use Rattle.std.proofs.lemmas.Bool.{and_from}
use Rattle.std.specs.List.{flat_map}
use Rattle.std.specs.Str.{bytes_eq}
use Rattle.hc_base.specs.Bytes.{slash}
use Rattle.hc_base.specs.Paths.{begins_with_slash, is_slash}
use Rattle.hc_model.specs.declared.read.Read.TheVariants.{KindOf}
use Rattle.hc_model.specs.declared.walk.Kind.{Kind}
use Rattle.hc_model.specs.declared.walk.Kind.TheVariants as kind
use Rattle.hc_plan.proofs.Slots.{own_bytes}
use Rattle.hc_plan.specs.Cover.{Among}
use Rattle.hc_abs_pass.proofs.Components.{cut, none_left}
use Rattle.hc_abs_pass.specs.Walks.{AreNames, Followed, IsListed, WalkEnd, absent_end, any_rest, at_root}
use Rattle.hc_abs_pass.specs.Walks.{behind_component, behind_slash, below, component, dir_end, ends_by, ends_in}
use Rattle.hc_abs_pass.specs.Walks.{ends_named, file_end, front_end, into, is_absent, is_empty, names_at}

-- ---- lists

among_left : {X : Type 0} (x : X) (xs ys : List X) → Among x xs → Among x (xs ++ ys)
among_left x [] ys among = absurd among
among_left x (y ∷ xs) ys (inl same) = inl same
among_left x (y ∷ xs) ys (inr among) = inr (among_left x xs ys among)

among_right : {X : Type 0} (x : X) (xs ys : List X) → Among x ys → Among x (xs ++ ys)
among_right x [] ys among = among
among_right x (y ∷ xs) ys among = inr (among_right x xs ys among)

among_flat : {X Y : Type 0} (f : X → List Y) (x : X) (y : Y) (xs : List X) → Among x xs → Among y (f x)
    → Among y (flat_map f xs)
among_flat f x y [] among there = absurd among
among_flat f x y (first ∷ xs) (inl same) there =
    among_left y (f first) (flat_map f xs) (subst (λ x. Among y (f x)) same there)
among_flat f x y (first ∷ xs) (inr among) there =
    among_right y (f first) (flat_map f xs) (among_flat f x y xs among there)

among_map : {X Y : Type 0} (f : X → Y) (x : X) (xs : List X) → Among x xs → Among (f x) (map f xs)
among_map f x [] among = absurd among
among_map f x (y ∷ xs) (inl same) = inl (ap f same)
among_map f x (y ∷ xs) (inr among) = inr (among_map f x xs among)

-- ---- ends

-- Some end of a list has a text.
abbrev Has : List WalkEnd → List ℕ → Type 0
Has ends rest = (end : WalkEnd) × Among end ends × (end.rests rest ≡ true)

module _ (most : ℕ) (shown : Shown) (listed : IsListed most shown) where
  -- A directory that is followed, and there are levels enough.
  record Stays (levels : ℕ) (at : Followed) : Type 0 where
    names : AreNames shown at.path at.front
    enough : most ≤ length at.front + levels
    short : length at.front < most

  -- Where a slash follows the front, nothing stands by the front alone.
  abbrev IsSingle : Followed → List ℕ → Type 0
  IsSingle at rest = is_empty rest ≡ false → is_empty (component rest) ≡ true
      → is_absent (shown (KindOf at.front)) ≡ true

  abbrev Each : ℕ → Type 0
  Each levels = (at : Followed) (rest : List ℕ) → Stays levels at → IsSingle at rest
      → Has (ends_in levels shown at) rest

  module _ (levels : ℕ) (each : Each levels) (at : Followed) (rest : List ℕ) (stays : Stays (suc levels) at)
      (single : IsSingle at rest) (some : is_empty rest ≡ false) where
    abbrev own : List ℕ
    own = component rest

    abbrev path : List ℕ
    path = at.front ++ own

    abbrev named : List ℕ → List WalkEnd
    named = ends_named (λ at. ends_in levels shown at) shown at

    absent : is_absent (shown (KindOf path)) ≡ true → Has (ends_in (suc levels) shown at) rest
    unfolding ends_in
    absent is = (
      absent_end shown at,
      inr (among_right (absent_end shown at) (flat_map named (names_at shown at.path)) _ (inl refl)),
      and_from (not (is_empty rest)) (is_absent (shown (KindOf path))) (ap not some) is,
    )

    -- What stands there is listed.
    own_listed : is_absent (shown (KindOf path)) ≡ false → Among own (names_at shown at.path)
    own_listed stands = by (is_empty own) refl
      where
        by : (none : Bool) → is_empty own ≡ none → Among own (names_at shown at.path)
        by false some = stays.names own some (cut rest).plain stands
        by true none = absurd (true≢false (sym (single some none)
            ∙ ap (λ path. is_absent (shown (KindOf path))) (sym (append-nil at.front)
            ∙ ap (λ own. at.front ++ own) (sym (none_left own none))) ∙ stands))

    listed_there : (found : Kind) → shown (KindOf path) ≡ found → is_absent found ≡ false → (end : WalkEnd)
        → Among end (ends_by (λ at. ends_in levels shown at) at own found) → end.rests rest ≡ true
        → Has (ends_in (suc levels) shown at) rest
    unfolding ends_in
    listed_there found is stands end among has = (
      end,
      inr (among_left end (flat_map named (names_at shown at.path)) _
          (among_flat named own end (names_at shown at.path) (own_listed (ap is_absent is ∙ stands))
          (subst (λ found. Among end (ends_by (λ at. ends_in levels shown at) at own found)) (sym is) among))),
      has,
    )

    inside : shown (KindOf path) ≡ kind.Dir → (tail : List ℕ) → behind_component rest ≡ tail
        → Has (ends_in (suc levels) shown at) rest
    inside is [] none = listed_there kind.Dir is refl (dir_end at own) (inl refl)
        (and_from (bytes_eq own own) (is_empty (behind_component rest)) (own_bytes own) (ap is_empty none))
    inside is (b ∷ more) tail =
        let longer = length-append path (slash ∷ []) in
        let of_path = length-append at.front own in
        let short = listed.short path is in
        let enough = stays.enough in
        let found = each (into at own) more (record {
          names = listed.each path is;
          enough = omega (arith, enough, longer, of_path);
          short = omega (arith, short, longer);
        }) (λ some none. listed.fronts path is) in
        listed_there kind.Dir is refl (below own found.0)
        (inr (among_map (below own) found.0 (ends_in levels shown (into at own)) found.1))
        (and_from (bytes_eq own own) (behind_slash (found.0).rests (behind_component rest)) (own_bytes own)
        (ap (behind_slash (found.0).rests) tail ∙ and_from (is_slash b) ((found.0).rests more) begins found.2))
      where
        begins : is_slash b ≡ true
        begins = elim (cut rest).next [
          | inl none ↦ absurd (let wrong = sym tail ∙ none in cc)
          | inr next ↦ ap (λ tail. begins_with_slash tail) (sym tail ∙ next.2) ∙ next.3
        ]

    by_kind : (found : Kind) → shown (KindOf path) ≡ found → Has (ends_in (suc levels) shown at) rest
    by_kind kind.Absent is = absent (ap is_absent is)
    by_kind kind.File is = listed_there kind.File is refl (file_end at own) (inl refl)
        (and_from (bytes_eq own own) (any_rest (behind_component rest)) (own_bytes own) refl)
    by_kind kind.Dir is = inside is (behind_component rest) refl

  some_end : (levels : ℕ) → Each levels
  unfolding ends_in
  some_end zero at rest stays single =
      let enough = stays.enough in let short = stays.short in absurd (omega (arith, enough, short))
  some_end (suc levels) at rest stays single = by (some_end levels) (is_empty rest) refl
    where
      by : Each levels → (none : Bool) → is_empty rest ≡ none → Has (ends_in (suc levels) shown at) rest
      by each true none = (front_end at, inl refl, none)
      by each false some = by_kind levels each at rest stays single some
          (shown (KindOf (at.front ++ component rest))) refl

  pub root_has : (rest : List ℕ) → begins_with_slash rest ≡ false → Has (ends_in most shown at_root) rest
  root_has rest single =
      let some = listed.some in
      some_end most at_root rest (record {
        names = listed.at_root;
        enough = omega arith;
        short = omega (arith, some);
      }) (by rest single)
    where
      by : (rest : List ℕ) → begins_with_slash rest ≡ false → IsSingle at_root rest
      by [] single some none = absurd (true≢false some)
      by (b ∷ bs) single some none =
          absurd (true≢false (sym (ap (λ is. is_empty (elim is [ true ↦ [] | false ↦ b ∷ component bs ])) (sym single)
          ∙ none)))
