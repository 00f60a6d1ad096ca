-- The paths above a path.
use Rattle.hc_world.proofs.Common.{◌≡◌, ℕ, ◌+◌, ◌<◌, ◌≤◌, ◌==◌, nat_le, leb→le, le-leb}
use Rattle.hc_world.proofs.Common.{subst, T, ◌&&◌, ◌||◌, Bool, true, false, cond, List, [], ◌∷◌, ◌++◌}
use Rattle.hc_world.proofs.Common.{length, take, drop, refl, sym, ap, ◌∙◌, arith, append_assoc, append-nil}
use Rattle.hc_world.proofs.Common.{length-append, ⊎_elim, list_all, list_any, onto_first, slice_split, and_parts}
use Rattle.hc_world.proofs.Common.{eqb-true, or_cases, or_left, or_right, lt-leb, false≢true, Contains}
use Rattle.hc_world.proofs.Common.{nat_list_cmp_total, eq_by_cmp_equiv, begins_with_slash, is_slash, root, fronts}
use Rattle.hc_world.proofs.Common.{is_component, is_path, parents}
use Rattle.std.proofs.lemmas.List.Folds.{list_all-append}
use Rattle.std.proofs.lemmas.Map.Views.{list_any-from_Contains}
use Rattle.std.proofs.lemmas.List.Splits.{length-slice_split, slice_split-cons_no, slice_split-cons_yes}
use Rattle.hc_world.proofs.Lookups.{same_path, same_path-true}

-- Whether a path is among these.
abbrev pub is_among : List (List ℕ) → List ℕ → Bool
is_among paths q = list_any (same_path q) paths

pub is_among-from_Contains : (paths : List (List ℕ)) (q : List ℕ) → Contains paths q → is_among paths q ≡ true
is_among-from_Contains paths q h = list_any-from_Contains (eq_by_cmp_equiv nat_list_cmp_total) q paths h

-- A front is what stands before a slash.
abbrev pub IsCut : List ℕ → List ℕ → List ℕ → Type 0
IsCut seen rest q = (mid : List ℕ) × (more : List ℕ) × (q ≡ seen ++ mid) × (rest ≡ mid ++ 47 ∷ more)

cut_later : (seen : List ℕ) (b : ℕ) (bs q : List ℕ) → IsCut (seen ++ b ∷ []) bs q → IsCut seen (b ∷ bs) q
cut_later seen b bs q c = (b ∷ c.0, c.1, c.2 ∙ append_assoc seen (b ∷ []) c.0, ap (λ s. b ∷ s) c.3)

pub fronts_cut : (seen rest q : List ℕ) → is_among (fronts seen rest) q ≡ true → IsCut seen rest q
fronts_cut seen [] q h = absurd (false≢true h)
fronts_cut seen (b ∷ bs) q h =
    elim (is_slash b) as (λ s. is_slash b ≡ s
    → is_among (cond s (seen ∷ fronts (seen ++ b ∷ []) bs) (fronts (seen ++ b ∷ []) bs)) q ≡ true
    → IsCut seen (b ∷ bs) q) [
      | true ↦ λ s k. ⊎_elim
          (λ e. ([], bs, same_path-true q seen e ∙ sym (append-nil seen), ap (λ x. x ∷ bs) (eqb-true b 47 s)))
          (λ e. cut_later seen b bs q (fronts_cut (seen ++ b ∷ []) bs q e))
          (or_cases (same_path q seen) _ k)
      | false ↦ λ s k. cut_later seen b bs q (fronts_cut (seen ++ b ∷ []) bs q k)
    ] refl h

-- The fronts of a text are fronts of a longer one.
fronts_longer : (seen mid more q : List ℕ) → is_among (fronts seen mid) q ≡ true
    → is_among (fronts seen (mid ++ more)) q ≡ true
fronts_longer seen [] more q h = absurd (false≢true h)
fronts_longer seen (b ∷ bs) more q h =
    elim (is_slash b) as (λ s. is_among (cond s (seen ∷ fronts (seen ++ b ∷ []) bs) (fronts (seen ++ b ∷ []) bs))
    q ≡ true → is_among
    (cond s (seen ∷ fronts (seen ++ b ∷ []) (bs ++ more)) (fronts (seen ++ b ∷ []) (bs ++ more))) q ≡ true) [
      | true ↦ λ k. ⊎_elim
          (λ e. or_left (same_path q seen) _ e)
          (λ e. or_right (same_path q seen) _ (fronts_longer (seen ++ b ∷ []) bs more q e))
          (or_cases (same_path q seen) _ k)
      | false ↦ λ k. fronts_longer (seen ++ b ∷ []) bs more q k
    ] h

pub parents-long : (path : List ℕ) → 1 < length path
    → parents path ≡ root ∷ fronts (take 1 path) (drop 1 path)
parents-long path l = ap (λ b. cond b [] (root ∷ fronts (take 1 path) (drop 1 path))) (lt-leb (length path) 1 l)

parents-shape : (x y : ℕ) (rest : List ℕ) → parents (x ∷ y ∷ rest) ≡ root ∷ fronts (x ∷ []) (y ∷ rest)
parents-shape x y rest = parents-long (x ∷ y ∷ rest) (omega arith)

-- ---- by the shape of the path

pub parent_shorter : (p q : List ℕ) → is_among (parents p) q ≡ true → length q < length p
parent_shorter [] q h = absurd (false≢true h)
parent_shorter (x ∷ []) q h = absurd (false≢true h)
parent_shorter (x ∷ y ∷ rest) q h =
    let k : is_among (root ∷ fronts (x ∷ []) (y ∷ rest)) q ≡ true =
    sym (ap (λ ps. is_among ps q) (parents-shape x y rest)) ∙ h in
    ⊎_elim
    (λ e. let r : length q ≡ 1 = ap length (same_path-true q root e) in omega arith)
    (λ e. let c = fronts_cut (x ∷ []) (y ∷ rest) q e in let a : length q ≡ length (x ∷ c.0) = ap length c.2 in
    let b : length (y ∷ rest) ≡ length c.0 + length (47 ∷ c.1) =
    ap length c.3 ∙ length-append c.0 (47 ∷ c.1) in omega arith)
    (or_cases (same_path q root) _ k)

within : (x : ℕ) (mid more q : List ℕ) → is_among (parents (x ∷ mid)) q ≡ true
    → is_among (root ∷ fronts (x ∷ []) (mid ++ more)) q ≡ true
within x [] more q h = absurd (false≢true h)
within x (m ∷ mid) more q h =
    let k : is_among (root ∷ fronts (x ∷ []) (m ∷ mid)) q ≡ true =
    sym (ap (λ ps. is_among ps q) (parents-shape x m mid)) ∙ h in
    ⊎_elim (λ e. or_left (same_path q root) _ e)
    (λ e. or_right (same_path q root) _ (fronts_longer (x ∷ []) (m ∷ mid) more q e))
    (or_cases (same_path q root) _ k)

pub parents_of_parent : (p q above : List ℕ) → is_among (parents p) q ≡ true → is_among (parents q) above
    ≡ true → is_among (parents p) above ≡ true
parents_of_parent [] q above h k = absurd (false≢true h)
parents_of_parent (x ∷ []) q above h k = absurd (false≢true h)
parents_of_parent (x ∷ y ∷ rest) q above h k =
    let shape = parents-shape x y rest in
    let i : is_among (root ∷ fronts (x ∷ []) (y ∷ rest)) q ≡ true = sym (ap (λ ps. is_among ps q) shape)
    ∙ h in
    ap (λ ps. is_among ps above) shape ∙ ⊎_elim
    (λ e. let none : is_among (parents root) above
    ≡ true = sym (ap (λ p. is_among (parents p) above) (same_path-true q root e)) ∙ k in
    absurd (false≢true none))
    (λ e. let c = fronts_cut (x ∷ []) (y ∷ rest) q e in
    ap (λ s. is_among (root ∷ fronts (x ∷ []) s) above) c.3
    ∙ within x c.0 (47 ∷ c.1) above (sym (ap (λ p. is_among (parents p) above) c.2) ∙ k))
    (or_cases (same_path q root) _ i)

-- ---- what stands above a path is a path

onto_append : (b : ℕ) (parts more : List (List ℕ)) → 0 < length parts → onto_first b (parts ++ more)
    ≡ onto_first b parts ++ more
onto_append b [] more some = absurd (omega (arith, some))
onto_append b (part ∷ parts) more some = refl

pub split_at_slash : (mid more : List ℕ) → slice_split is_slash (mid ++ 47 ∷ more) ≡ slice_split is_slash mid
    ++ slice_split is_slash more
split_at_slash [] more = refl
split_at_slash (b ∷ bs) more =
    elim (is_slash b) as (λ s. is_slash b ≡ s → slice_split is_slash (b ∷ bs ++ 47 ∷ more)
    ≡ slice_split is_slash (b ∷ bs) ++ slice_split is_slash more) [
      | true ↦ λ s. slice_split-cons_yes is_slash b (bs ++ 47 ∷ more) s
          ∙ ap (λ l. [] ∷ l) (split_at_slash bs more) ∙ ap (λ l. l ++ slice_split is_slash more)
          (sym (slice_split-cons_yes is_slash b bs s))
      | false ↦ λ s. slice_split-cons_no is_slash b (bs ++ 47 ∷ more) s
          ∙ ap (onto_first b) (split_at_slash bs more)
          ∙ onto_append b (slice_split is_slash bs) (slice_split is_slash more)
          (omega (arith, length-slice_split is_slash bs))
          ∙ ap (λ l. l ++ slice_split is_slash more) (sym (slice_split-cons_no is_slash b bs s))
    ] refl

components_of_front : (mid more : List ℕ) → list_all is_component (slice_split is_slash (mid ++ 47 ∷ more))
    ≡ true → list_all is_component (slice_split is_slash mid) ≡ true
components_of_front mid more h =
    (and_parts _ _ (sym (list_all-append is_component (slice_split is_slash mid) (slice_split is_slash more))
    ∙ ap (list_all is_component) (sym (split_at_slash mid more)) ∙ h)).0

pub components : (x y : ℕ) (rest : List ℕ) → is_path (x ∷ y ∷ rest) ≡ true → (x ≡ 47)
    × (list_all is_component (slice_split is_slash (y ∷ rest)) ≡ true)
components x y rest is =
    let ends = and_parts (begins_with_slash (x ∷ y ∷ rest) && nat_le (length (x ∷ y ∷ rest)) 4096) _ is in (
      eqb-true x 47 (and_parts (begins_with_slash (x ∷ y ∷ rest)) _ ends.0).0,
      ⊎_elim (λ one. absurd (omega (arith, eqb-true (length (x ∷ y ∷ rest)) 1 one))) (λ all. all)
          (or_cases (length (x ∷ y ∷ rest) == 1) _ ends.1),
    )

pub parent_is_path : (path q : List ℕ) → is_path path ≡ true → is_among (parents path) q ≡ true
    → is_path q ≡ true
parent_is_path [] q is h = absurd (false≢true h)
parent_is_path (x ∷ []) q is h = absurd (false≢true h)
parent_is_path (x ∷ y ∷ rest) q is h =
    let k : is_among (root ∷ fronts (x ∷ []) (y ∷ rest)) q ≡ true =
    sym (ap (λ ps. is_among ps q) (parents-shape x y rest)) ∙ h in
    let ends = and_parts (begins_with_slash (x ∷ y ∷ rest) && nat_le (length (x ∷ y ∷ rest)) 4096) _ is in
    let front = and_parts (begins_with_slash (x ∷ y ∷ rest)) _ ends.0 in
    ⊎_elim
    (λ e. ap is_path (same_path-true q root e))
    (λ e.
    let c = fronts_cut (x ∷ []) (y ∷ rest) q e in
    let short : length q ≤ 4096 =
    omega (
      arith,
      parent_shorter (x ∷ y ∷ rest) q h,
      leb→le (length (x ∷ y ∷ rest)) 4096 (subst T (sym front.1) tt),
    ) in
    let all = (components x y rest is).1 in
    let inner : list_all is_component (slice_split is_slash c.0) ≡ true =
    components_of_front c.0 c.1 (sym (ap (λ t. list_all is_component (slice_split is_slash t)) c.3) ∙ all) in
    let fits : nat_le (length (x ∷ c.0)) 4096 ≡ true =
    le-leb (length (x ∷ c.0)) 4096 (omega (arith, ap length c.2)) in
    ap is_path c.2
    ∙ ap (λ b. (b && nat_le (length (x ∷ c.0)) 4096)
    && ((length (x ∷ c.0) == 1) || list_all is_component (slice_split is_slash c.0))) front.0
    ∙ ap (λ b. b && ((length (x ∷ c.0) == 1) || list_all is_component (slice_split is_slash c.0))) fits
    ∙ or_right (length (x ∷ c.0) == 1) _ inner)
    (or_cases (same_path q root) _ k)
