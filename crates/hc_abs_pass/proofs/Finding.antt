-- The ends of a world, name by name: what was found and what is left are always all ends.
use Rattle.hc_abs_pass.proofs.Common.{◌≡◌, ◌∙◌, ℕ, zero, suc, ◌+◌, ◌≤◌, List, [], ◌∷◌, ◌++◌, length, drop}
use Rattle.hc_abs_pass.proofs.Common.{Option, Some, None, refl, sym, ap, ap₂, subst, arith, append_assoc, append-nil}
use Rattle.hc_abs_pass.proofs.Common.{length-append, Shown}
use Rattle.std.proofs.Common.{◌-◌}
use Rattle.std.specs.List.{AllByRecursion, flat_map, slice_get}
use Rattle.hc_base.specs.Bytes.{slash}
use Rattle.hc_model.specs.declared.read.Read.TheVariants.{KindOf}
use Rattle.hc_model.specs.declared.walk.Kind.{Kind}
use Rattle.hc_model.specs.declared.walk.Kind.TheVariants as kind
use Rattle.hc_abs_pass.specs.Walking.{Adds, AreEnds, added_by, added_next, all_in, all_left, entered, found_named}
use Rattle.hc_abs_pass.specs.Walking.{found_by, inside, left_in, one_on, other_named}
use Rattle.hc_abs_pass.specs.Walking.{root_directory, slashed, unslashed}
use Rattle.hc_abs_pass.specs.Walks.{IsListed}
use Rattle.hc_abs_pass.specs.declared.walk_ends.Directory.{Directory}
use Rattle.hc_abs_pass.specs.declared.walk_ends.End.{End}
use Rattle.hc_abs_pass.specs.declared.walk_ends.Frame.{Frame}

-- ---- lists

no_more : {X : Type 0} (xs : List X) (at : ℕ) → slice_get xs at ≡ None → drop at xs ≡ []
no_more [] zero is = refl
no_more [] (suc at) is = refl
no_more (x ∷ xs) zero is = absurd (let some = is in cc)
no_more (x ∷ xs) (suc at) is = no_more xs at is

next_left : {X : Type 0} (xs : List X) (at : ℕ) (x : X) → slice_get xs at ≡ Some x → drop at xs ≡ x ∷ drop (suc at) xs
next_left [] at x is = absurd (let none = is in cc)
next_left (first ∷ xs) zero x is = ap (λ x. x ∷ xs) (let some = is in cc)
next_left (first ∷ xs) (suc at) x is = next_left xs at x is

some_left : {X : Type 0} (xs : List X) (at : ℕ) (x : X) → slice_get xs at ≡ Some x → drop at xs ≡ x ∷ drop (at + 1) xs
some_left xs at x is =
    let more : suc at ≡ at + 1 = omega arith in
    next_left xs at x is ∙ ap (λ at. x ∷ drop at xs) more

pub all_both : {X : Type 0} (P : X → Type 0) (xs ys : List X) → AllByRecursion P xs → AllByRecursion P ys
    → AllByRecursion P (xs ++ ys)
all_both P [] ys first rest = rest
all_both P (x ∷ xs) ys first rest = (first.0, all_both P xs ys first.1 rest)

all_parts : {X : Type 0} (P : X → Type 0) (xs ys : List X) → AllByRecursion P (xs ++ ys)
    → AllByRecursion P xs × AllByRecursion P ys
all_parts P [] ys all = (tt, all)
all_parts P (x ∷ xs) ys all = let parts = all_parts P xs ys all.1 in ((all.0, parts.0), parts.1)

-- ---- frames

left_behind : (levels : ℕ) (shown : Shown) (frames more : List Frame)
    → all_left levels shown (frames ++ more) ≡ all_left levels shown more ++ all_left levels shown frames
left_behind levels shown [] more = sym (append-nil (all_left levels shown more))
left_behind levels shown (frame ∷ frames) more =
    ap (λ left. left ++ left_in levels shown frame) (left_behind levels shown frames more)
    ∙ append_assoc (all_left levels shown more) (all_left levels shown frames) (left_in levels shown frame)

-- There are no more directories up to it than its front has bytes.
abbrev pub IsDeep : Frame → Type 0
IsDeep frame = length frame.at.dirs ≤ length frame.at.front

module _ (levels : ℕ) (shown : Shown) where
  -- A directory is its text with a slash, and what is left where it was just entered.
  opens : (at : Directory) → length at.dirs ≤ levels
      → slashed at ∷ left_in levels shown (entered shown at) ≡ all_in (suc levels - length at.dirs) shown at
  unfolding all_in
  opens at within =
      let one_more : suc levels - length at.dirs ≡ suc (levels - length at.dirs) = omega arith in
      ap (λ levels. all_in levels shown at) (sym one_more)

  module _ (frame : Frame) (deep : IsDeep frame) (listed : IsListed levels shown) where
    by_kind : (name : List ℕ) (found : Kind) → shown (KindOf (frame.at.front ++ name)) ≡ found
        → drop frame.next frame.names ≡ name ∷ drop (frame.next + 1) frame.names
        → left_in levels shown frame
        ≡ (added_by shown (one_on frame) (frame.at.front ++ name) found).0
        ++ all_left levels shown (added_by shown (one_on frame) (frame.at.front ++ name) found).1
    by_kind name found is next = ap (λ names. flat_map named names ++ last) next
        ∙ ap (λ found. (found_by (λ at. all_in (levels - length frame.at.dirs) shown at) frame.at path found
        ++ later) ++ last) is
        ∙ by found is
      where
        path : List ℕ
        path = frame.at.front ++ name

        named : List ℕ → List End
        named = found_named (λ at. all_in (levels - length frame.at.dirs) shown at) shown frame.at

        later : List End
        later = flat_map named (drop (frame.next + 1) frame.names)

        last : List End
        last = other_named shown frame.at frame.names ∷ []

        by : (found : Kind) → shown (KindOf path) ≡ found
            → (found_by (λ at. all_in (levels - length frame.at.dirs) shown at) frame.at path found ++ later) ++ last
            ≡ (added_by shown (one_on frame) path found).0
            ++ all_left levels shown (added_by shown (one_on frame) path found).1
        by kind.Absent is = refl
        by kind.File is = refl
        by kind.Dir is =
            let short = listed.short path is in
            let of_path = length-append frame.at.front name in
            let of_dirs = length-append frame.at.dirs (path ∷ []) in
            let within : length (inside frame.at path).dirs ≤ levels = omega (arith, short, of_path, of_dirs, deep) in
            let same : suc levels - length (inside frame.at path).dirs ≡ levels - length frame.at.dirs =
            omega (arith, of_dirs) in
            ap (λ rest. unslashed (inside frame.at path) ∷ rest)
            (append_assoc (all_in (levels - length frame.at.dirs) shown (inside frame.at path)) later last
            ∙ ap (λ own. own ++ (later ++ last))
            (ap (λ levels. all_in levels shown (inside frame.at path)) (sym same)
            ∙ sym (opens (inside frame.at path) within)))

    all_kept : (next : Option (List ℕ)) → slice_get frame.names frame.next ≡ next
        → left_in levels shown frame
        ≡ (added_next shown frame next).0 ++ all_left levels shown (added_next shown frame next).1
    all_kept None is = ap (λ names. flat_map (found_named (λ at. all_in (levels - length frame.at.dirs) shown at) shown
        frame.at) names ++ other_named shown frame.at frame.names ∷ []) (no_more frame.names frame.next is)
    all_kept (Some name) is =
        by_kind name (shown (KindOf (frame.at.front ++ name))) refl (some_left frame.names frame.next name is)

-- What is added is as deep.
added_deep : (shown : Shown) (frame : Frame) (next : Option (List ℕ)) → IsDeep frame
    → AllByRecursion IsDeep (added_next shown frame next).1
added_deep shown frame None deep = tt
added_deep shown frame (Some name) deep = by (shown (KindOf (frame.at.front ++ name)))
  where
    path : List ℕ
    path = frame.at.front ++ name

    by : (found : Kind) → AllByRecursion IsDeep (added_by shown (one_on frame) path found).1
    by kind.Absent = (deep, tt)
    by kind.File = (deep, tt)
    by kind.Dir =
        let of_path = length-append frame.at.front name in
        let more = length-append frame.at.dirs (path ∷ []) in
        let front = length-append path (slash ∷ []) in
        (deep, (omega (arith, more, front, deep, of_path), tt))

-- ---- a turn

pub none_added : (shown : Shown) (frame : Frame) (end : End) (ends later : List End) (frames : List Frame)
    → slice_get frame.names frame.next ≡ None → end ≡ other_named shown frame.at frame.names
    → later ≡ ends ++ end ∷ []
    → Adds (added_next shown frame (slice_get frame.names frame.next)) ends later frames frames
none_added shown frame end ends later frames none is more =
    subst (λ next. Adds (added_next shown frame next) ends later frames frames) (sym none)
    (more ∙ ap (λ end. ends ++ end ∷ []) is, sym (append-nil frames))

pub some_added : (shown : Shown) (frame moved : Frame) (name path : List ℕ) (found : Kind) (ends later : List End)
    (frames more : List Frame) → slice_get frame.names frame.next ≡ Some name → path ≡ frame.at.front ++ name
    → found ≡ shown (KindOf path) → moved ≡ one_on frame
    → Adds (added_by shown moved path found) ends later frames more
    → Adds (added_next shown frame (slice_get frame.names frame.next)) ends later frames more
some_added shown frame moved name path found ends later frames more some of is moves =
    subst (λ added. Adds added ends later frames more)
    (ap (λ moved. added_by shown moved path found) moves ∙ ap (added_by shown (one_on frame) path) is
    ∙ ap (λ path. added_by shown (one_on frame) path (shown (KindOf path))) of
    ∙ ap (added_next shown frame) (sym some))

pub directory_added : (shown : Shown) (frame : Frame) (path : List ℕ) (found : Kind) (at : Directory)
    (end : End) (ends mid later : List End) (frames between more : List Frame) → found ≡ kind.Dir
    → at ≡ inside frame.at path → end ≡ unslashed at → mid ≡ ends ++ end ∷ [] → between ≡ frames ++ frame ∷ []
    → Adds (slashed at ∷ [], entered shown at ∷ []) mid later between more
    → Adds (added_by shown frame path found) ends later frames more
directory_added shown frame path found at end ends mid later frames between more is inside_it is_end first second adds =
    subst (λ found. Adds (added_by shown frame path found) ends later frames more) (sym is)
    (subst (λ at. Adds (unslashed at ∷ slashed at ∷ [], frame ∷ entered shown at ∷ []) ends later frames more)
    inside_it (
      adds.0 ∙ ap (λ mid. mid ++ slashed at ∷ []) (first ∙ ap (λ end. ends ++ end ∷ []) is_end)
          ∙ append_assoc ends (unslashed at ∷ []) (slashed at ∷ []),
      adds.1 ∙ ap (λ mid. mid ++ entered shown at ∷ []) second
          ∙ append_assoc frames (frame ∷ []) (entered shown at ∷ []),
    ))

-- ---- the loop

pub record InWalk (shown : Shown) (ends : List End) (frames : List Frame) : Type 0 where
  pub deep : AllByRecursion IsDeep frames
  pub all : (levels : ℕ) → IsListed levels shown
      → ends ++ all_left levels shown frames ≡ all_in levels shown root_directory

pub walk_begins : (shown : Shown) (at : Directory) (before ends : List End) (none frames : List Frame)
    → at ≡ root_directory → before ≡ [] → none ≡ []
    → Adds (slashed at ∷ [], entered shown at ∷ []) before ends none frames → InWalk shown ends frames
walk_begins shown at before ends none frames root no_end no_frame adds =
    let is_ends = adds.0 ∙ ap₂ (λ before at. before ++ slashed at ∷ []) no_end root in
    let is_frames = adds.1 ∙ ap₂ (λ before at. before ++ entered shown at ∷ []) no_frame root in record {
      deep = subst (AllByRecursion IsDeep) (sym is_frames) (omega arith, tt);
      all = λ levels listed.
          let some = listed.some in
          let same : suc levels - 1 ≡ levels = omega arith in
          ap₂ (λ ends frames. ends ++ all_left levels shown frames) is_ends is_frames
          ∙ opens levels shown root_directory (omega (arith, some))
          ∙ ap (λ levels. all_in levels shown root_directory) same;
    }

pub walk_goes_on : (shown : Shown) (ends later : List End) (before front frames : List Frame) (frame : Frame)
    → InWalk shown ends before → before ≡ front ++ frame ∷ []
    → Adds (added_next shown frame (slice_get frame.names frame.next)) ends later front frames
    → InWalk shown later frames
walk_goes_on shown ends later before front frames frame inside is adds =
    let parts = all_parts IsDeep front (frame ∷ []) (subst (AllByRecursion IsDeep) is inside.deep) in
    let next = slice_get frame.names frame.next in record {
      deep = subst (AllByRecursion IsDeep) (sym adds.1)
          (all_both IsDeep front (added_next shown frame next).1 parts.0 (added_deep shown frame next parts.1.0));
      all = λ levels listed.
          let left : List Frame → List End = all_left levels shown in
          let added = added_next shown frame next in
          ap₂ (λ ends frames. ends ++ left frames) adds.0 adds.1
          ∙ ap (λ left. (ends ++ added.0) ++ left) (left_behind levels shown front added.1)
          ∙ append_assoc ends added.0 (left added.1 ++ left front)
          ∙ ap (λ rest. ends ++ rest) (sym (append_assoc added.0 (left added.1) (left front))
          ∙ ap (λ own. own ++ left front) (sym (all_kept levels shown frame parts.1.0 listed next refl))
          ∙ sym (left_behind levels shown front (frame ∷ [])))
          ∙ ap (λ frames. ends ++ left frames) (sym is)
          ∙ inside.all levels listed;
    }

pub walk_over : (shown : Shown) (ends : List End) (frames : List Frame) → InWalk shown ends frames → frames ≡ []
    → AreEnds shown ends
walk_over shown ends frames inside none levels listed =
    sym (append-nil ends) ∙ ap (λ frames. ends ++ all_left levels shown frames) (sym none) ∙ inside.all levels listed
