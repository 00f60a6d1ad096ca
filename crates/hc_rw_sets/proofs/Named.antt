-- What a text names: the path that it is with its slashes merged.
use Rattle.hc_rw_sets.proofs.Common.{◌≡◌, ℕ, List, [], ◌∷◌, ◌++◌, length, take}
use Rattle.hc_rw_sets.proofs.Common.{drop, Bool, true, false, not, cond, ◌&&◌, ◌||◌, Some, None, refl}
use Rattle.hc_rw_sets.proofs.Common.{sym, ◌∙◌, ap, arith, append_assoc, eqb-true, inl, inr, ◌⊎◌}
use Rattle.hc_rw_sets.proofs.Common.{⊎_elim, if◌then◌else◌, TextSet}
use Rattle.std.proofs.Common.{◌-◌, ◌==◌, nat_le, nat_lt, bytes_eq, length-append}
use Rattle.std.proofs.Math.Bool.{and-false, or_assoc}
use Rattle.std.proofs.Math.Seq.{take-append_seam}
use Rattle.std.proofs.lemmas.Bool.{and_from, and_parts, false_from_ne_true, false≢true, not-true, lt-ltb}
use Rattle.std.proofs.lemmas.Bool.{or_cases, or_left, or_right}
use Rattle.std.specs.Cmp.Lexicographic.{bytes_decides}
use Rattle.std.specs.List.{list_all, list_any, onto_first, slice_split}
use Rattle.hc_base.specs.Paths.{begins_with_slash, ends_with_slash, has_dots, is_dots, is_slash, merge_slashes}
use Rattle.hc_base.specs.Paths.{without_final_slash}
use Rattle.hc_dfa.specs.Singles.{is_among}
use Rattle.hc_model.specs.World.{is_component, is_path}
use Rattle.hc_rw_eval.specs.Conditions.{dir_named, path_named}
use Rattle.hc_rw_sets.specs.Naming.{ArePaths, either_way, merged_behind, names}
use Rattle.hc_rw_sets.proofs.Merging.{merged, merged-more, same_answer}

-- ---- segments of dots

abbrev split : List ℕ → List (List ℕ)
split = slice_split is_slash

-- A segment is of dots, where this text stands before the first.
abbrev any_onto : List ℕ → List (List ℕ) → Bool
any_onto front [] = is_dots front || false
any_onto front (part ∷ parts) = is_dots (front ++ part) || list_any is_dots parts

any_nothing : (parts : List (List ℕ)) → any_onto [] parts ≡ list_any is_dots parts
any_nothing [] = refl
any_nothing (part ∷ parts) = refl

any_more : (front : List ℕ) (b : ℕ) (parts : List (List ℕ))
    → any_onto front (onto_first b parts) ≡ any_onto (front ++ b ∷ []) parts
any_more front b [] = refl
any_more front b (part ∷ parts) =
    ap (λ part. is_dots part || list_any is_dots parts) (sym (append_assoc front (b ∷ []) part))

-- Where text is left, segments stay segments.
abbrev Stay : Bool → List ℕ → List ℕ → Type 0
Stay behind front text = (behind ≡ true → front ≡ [])
    → any_onto front (split (merged_behind behind text)) ≡ any_onto front (split text)

segments_stay : (text front : List ℕ) (behind : Bool) → Stay behind front text
segments_stay [] front behind begins = refl
segments_stay (b ∷ text) front behind begins =
    by behind (is_slash b) refl begins (segments_stay text [] true (λ _. refl))
    (segments_stay text (front ++ b ∷ []) false)
  where
    step : is_slash b ≡ false → Stay false (front ++ b ∷ []) text
        → any_onto front (split (b ∷ merged_behind false text)) ≡ any_onto front (onto_first b (split text))
    step e more =
        ap (λ s. any_onto front (cond s ([] ∷ split (merged_behind false text))
        (onto_first b (split (merged_behind false text))))) e
        ∙ any_more front b (split (merged_behind false text)) ∙ more (λ no. absurd (false≢true no))
        ∙ sym (any_more front b (split text))

    by : (behind slash : Bool) → is_slash b ≡ slash → (behind ≡ true → front ≡ [])
        → any_onto [] (split (merged_behind true text)) ≡ any_onto [] (split text)
        → Stay false (front ++ b ∷ []) text
        → any_onto front (split (cond (behind && slash) (merged_behind behind text) (b ∷ merged_behind slash text)))
        ≡ any_onto front (cond slash ([] ∷ split text) (onto_first b (split text)))
    by true true e begins later more = rw (begins refl) (later ∙ any_nothing (split text))
    by false true e begins later more =
        ap (λ s. any_onto front (cond s ([] ∷ split (merged_behind true text))
        (onto_first b (split (merged_behind true text))))) e
        ∙ ap (λ rest. is_dots (front ++ []) || rest)
        (sym (any_nothing (split (merged_behind true text))) ∙ later ∙ any_nothing (split text))
    by true false e begins later more = step e more
    by false false e begins later more = step e more

pub dots_stay : (text : List ℕ) → has_dots (merge_slashes text) ≡ has_dots text
dots_stay text =
    ap has_dots (sym (merged text)) ∙ sym (any_nothing (split (merged_behind false text)))
    ∙ segments_stay text [] false (λ no. absurd (false≢true no)) ∙ any_nothing (split text)

begins_stay : (text : List ℕ) → begins_with_slash (merge_slashes text) ≡ begins_with_slash text
begins_stay [] = refl
begins_stay (b ∷ text) = ap begins_with_slash (merged-more b text)

-- ---- a final slash

last_off : (b : ℕ) (rest : List ℕ) → ends_with_slash (b ∷ rest) ≡ true
    → b ∷ rest ≡ take (length rest) (b ∷ rest) ++ 47 ∷ []
last_off b [] e = ap (λ x. x ∷ []) (eqb-true b 47 e)
last_off b (c ∷ rest) e = ap (λ l. b ∷ l) (last_off c rest e)

-- One slash at most was dropped.
dropped : (text : List ℕ)
    → (without_final_slash text ≡ text) ⊎ (text ≡ without_final_slash text ++ 47 ∷ [])
dropped [] = inl refl
dropped (b ∷ rest) = by (nat_lt 1 (length (b ∷ rest))) (ends_with_slash (b ∷ rest)) refl
  where
    front : List ℕ
    front = take (length (b ∷ rest) - 1) (b ∷ rest)

    less : length (b ∷ rest) - 1 ≡ length rest
    less = omega arith

    by : (long slash : Bool) → ends_with_slash (b ∷ rest) ≡ slash
        → (cond (long && slash) front (b ∷ rest) ≡ b ∷ rest)
        ⊎ (b ∷ rest ≡ cond (long && slash) front (b ∷ rest) ++ 47 ∷ [])
    by true true e = inr (last_off b rest e ∙ ap (λ n. take n (b ∷ rest) ++ 47 ∷ []) (sym less))
    by true false e = inl refl
    by false slash e = inl refl

slash_last : (text : List ℕ) → ends_with_slash (text ++ 47 ∷ []) ≡ true
slash_last [] = refl
slash_last (b ∷ []) = refl
slash_last (b ∷ c ∷ text) = slash_last (c ∷ text)

drops : (text : List ℕ) → begins_with_slash text ≡ true → without_final_slash (text ++ 47 ∷ []) ≡ text
drops [] begins = absurd (false≢true begins)
drops (b ∷ rest) begins =
    let text = b ∷ rest in
    let len = length-append text (47 ∷ []) in
    let long : nat_lt 1 (length (text ++ 47 ∷ [])) ≡ true = lt-ltb 1 _ (omega arith) in
    let less : length (text ++ 47 ∷ []) - 1 ≡ length text = omega arith in
    (λ i. cond (long i && slash_last text i) (take (less i) (text ++ 47 ∷ [])) (text ++ 47 ∷ []))
    ∙ take-append_seam text (47 ∷ [])

-- It adds no segment of dots.
dots_before : (text front : List ℕ) → any_onto front (split (text ++ 47 ∷ [])) ≡ any_onto front (split text)
dots_before [] front = refl
dots_before (b ∷ text) front = by (is_slash b) (dots_before text []) (dots_before text (front ++ b ∷ []))
  where
    by : (slash : Bool) → any_onto [] (split (text ++ 47 ∷ [])) ≡ any_onto [] (split text)
        → any_onto (front ++ b ∷ []) (split (text ++ 47 ∷ [])) ≡ any_onto (front ++ b ∷ []) (split text)
        → any_onto front (cond slash ([] ∷ split (text ++ 47 ∷ [])) (onto_first b (split (text ++ 47 ∷ []))))
        ≡ any_onto front (cond slash ([] ∷ split text) (onto_first b (split text)))
    by true rest more = ap (λ dots. is_dots (front ++ []) || dots)
        (sym (any_nothing (split (text ++ 47 ∷ []))) ∙ rest ∙ any_nothing (split text))
    by false rest more = any_more front b _ ∙ more ∙ sym (any_more front b _)

dots_alone : (text : List ℕ) → has_dots (text ++ 47 ∷ []) ≡ has_dots text
dots_alone text = sym (any_nothing (split (text ++ 47 ∷ []))) ∙ dots_before text [] ∙ any_nothing (split text)

-- ---- paths of a world

no_dots : (parts : List (List ℕ)) → list_all is_component parts ≡ true → list_any is_dots parts ≡ false
no_dots [] all = refl
no_dots (part ∷ parts) all =
    let both = and_parts (is_component part) _ all in
    let named = and_parts _ _ (and_parts _ _ both.0).0 in
    (λ i. not-true (is_dots part) named.1 i || no_dots parts both.1 i)

later_fails : (parts : List (List ℕ)) → list_all is_component (drop 1 parts) ≡ false
    → list_all is_component parts ≡ false
later_fails [] fails = fails
later_fails (part ∷ parts) fails =
    ap (λ rest. is_component part && rest) fails ∙ and-false (is_component part)

same_later : (b : ℕ) (parts : List (List ℕ)) → drop 1 (onto_first b parts) ≡ drop 1 parts
same_later b [] = refl
same_later b (part ∷ parts) = refl

-- Behind a final slash stands an empty segment.
no_last : (b : ℕ) (rest : List ℕ) → ends_with_slash (b ∷ rest) ≡ true
    → list_all is_component (drop 1 (split (b ∷ rest))) ≡ false
no_last b [] e = ap (λ s. list_all is_component (drop 1 (cond s ([] ∷ [] ∷ []) ((b ∷ []) ∷ [])))) e
no_last b (c ∷ rest) e = by (is_slash b) (no_last c rest e)
  where
    by : (slash : Bool) → list_all is_component (drop 1 (split (c ∷ rest))) ≡ false
        → list_all is_component (drop 1 (cond slash ([] ∷ split (c ∷ rest)) (onto_first b (split (c ∷ rest)))))
        ≡ false
    by true later = later_fails (split (c ∷ rest)) later
    by false later = ap (list_all is_component) (same_later b (split (c ∷ rest))) ∙ later

record IsTidy (path : List ℕ) : Type 0 where
  pub begins : begins_with_slash path ≡ true
  pub no_dots : has_dots path ≡ false
  pub ended : without_final_slash path ≡ path

tidy : (path : List ℕ) → is_path path ≡ true → IsTidy path
tidy [] is = absurd (false≢true is)
tidy (b ∷ []) is =
    let begins = (and_parts _ _ (and_parts _ _ is).0).0 in
    record {
      begins = begins;
      no_dots = ap (λ s. list_any is_dots (cond s ([] ∷ [] ∷ []) ((b ∷ []) ∷ []))) begins;
      ended = refl;
    }
tidy (b ∷ c ∷ rest) is =
    let path = b ∷ c ∷ rest in
    let segments = split (c ∷ rest) in
    let parts = and_parts (begins_with_slash path && nat_le (length path) 4096) _ is in
    let begins = (and_parts (begins_with_slash path) _ parts.0).0 in
    let named : list_all is_component segments ≡ true =
    ⊎_elim (λ one. absurd (longer (eqb-true (length path) 1 one))) (λ all. all)
    (or_cases (length path == 1) _ parts.1) in
    let open_end : ends_with_slash path ≡ false =
    false_from_ne_true _ (λ slash. false≢true (sym (later_fails segments (no_last c rest slash)) ∙ named)) in
    let long = nat_lt 1 (length path) in
    record {
      begins = begins;
      no_dots = ap (λ s. list_any is_dots (cond s ([] ∷ segments) (onto_first b segments))) begins
          ∙ no_dots segments named;
      ended = ap (λ cut. cond cut (take (length path - 1) path) path)
          (ap (λ slash. long && slash) open_end ∙ and-false long);
    }
  where
    longer : length (b ∷ c ∷ rest) ≡ 1 → ⊥
    longer short = omega arith

-- ---- what is named

one_path : (path text : List ℕ) → IsTidy path
    → (bytes_eq text path || bytes_eq text (path ++ 47 ∷ [])) ≡ bytes_eq (without_final_slash text) path
one_path path text is = same_answer _ _
    (λ either. (bytes_decides (without_final_slash text) path).1 (⊎_elim
    (λ whole. ap without_final_slash ((bytes_decides text path).0 whole) ∙ is.ended)
    (λ cut. ap without_final_slash ((bytes_decides text (path ++ 47 ∷ [])).0 cut) ∙ drops path is.begins)
    (or_cases (bytes_eq text path) _ either)))
    (λ named.
    let same = (bytes_decides (without_final_slash text) path).0 named in
    ⊎_elim
    (λ whole. or_left (bytes_eq text path) _ ((bytes_decides text path).1 (sym whole ∙ same)))
    (λ cut. or_right (bytes_eq text path) _
    ((bytes_decides text (path ++ 47 ∷ [])).1 (cut ∙ ap (λ path. path ++ 47 ∷ []) same)))
    (dropped text))

among_both : (paths : List (List ℕ)) → ArePaths paths → (text : List ℕ)
    → is_among (either_way paths) text ≡ is_among paths (without_final_slash text)
among_both [] are text = refl
among_both (path ∷ paths) are text =
    sym (or_assoc (bytes_eq text path) (bytes_eq text (path ++ 47 ∷ [])) (is_among (either_way paths) text))
    ∙ (λ i. one_path path text
    (tidy path (are path (or_left (bytes_eq path path) _ ((bytes_decides path path).1 refl)))) i
    || among_both paths (λ other among. are other (or_right (bytes_eq other path) _ among)) text i)

is_named : (path text : List ℕ) → IsTidy path
    → (path ≡ merge_slashes text) ⊎ (merge_slashes text ≡ path ++ 47 ∷ [])
    → (begins_with_slash text && not (has_dots text)) ≡ true
is_named path text is same =
    and_from _ _ (sym (begins_stay text) ∙ ⊎_elim (λ whole. ap begins_with_slash (sym whole) ∙ is.begins)
    (λ cut. ap begins_with_slash cut ∙ front path is.begins) same)
    (ap not (sym (dots_stay text) ∙ ⊎_elim (λ whole. ap has_dots (sym whole) ∙ is.no_dots)
    (λ cut. ap has_dots cut ∙ dots_alone path ∙ is.no_dots) same))
  where
    front : (path : List ℕ) → begins_with_slash path ≡ true → begins_with_slash (path ++ 47 ∷ []) ≡ true
    front [] begins = refl
    front (b ∷ path) begins = begins

guarded : (paths : TextSet) (test : Bool) (path : List ℕ) → (paths path ≡ true → test ≡ true)
    → paths path ≡ names paths (if test then Some path else None)
guarded paths true path implied = refl
guarded paths false path implied = false_from_ne_true (paths path) (λ there. false≢true (implied there))

module _ (paths : List (List ℕ)) (are : ArePaths paths) where
  pub files_are : (text : List ℕ) → is_among paths (merge_slashes text) ≡ names (is_among paths) (path_named text)
  files_are text = guarded (is_among paths) _ (merge_slashes text)
      (λ there. is_named (merge_slashes text) text (tidy _ (are _ there)) (inl refl))

  pub dirs_are : (text : List ℕ)
      → is_among (either_way paths) (merge_slashes text) ≡ names (is_among paths) (dir_named text)
  dirs_are text =
      among_both paths are (merge_slashes text)
      ∙ guarded (is_among paths) _ (without_final_slash (merge_slashes text))
      (λ there. is_named (without_final_slash (merge_slashes text)) text (tidy _ (are _ there))
      (dropped (merge_slashes text)))
