-- What merging slashes leaves.
use Rattle.hc_abs_segments.proofs.Common.{◌≡◌, ◌∙◌, ℕ, List, [], ◌∷◌, ◌++◌, Bool, true, false, ◌&&◌, ◌||◌}
use Rattle.hc_abs_segments.proofs.Common.{if◌then◌else◌, refl, sym, ap, ap₂, true≢false}
use Rattle.hc_base.specs.Paths.{begins_with_slash, has_double_slash, is_slash, merge_slashes}

-- The text begins with a byte that is a slash or not as this one.
abbrev Begins : ℕ → List ℕ → Type 0
Begins b text = (first : ℕ) × (rest : List ℕ) × (text ≡ first ∷ rest) × (is_slash first ≡ is_slash b)

both_slashes : (one other : Bool) → (one && other) ≡ true → other ≡ one
both_slashes true true is = refl
both_slashes true false is = absurd (true≢false (sym is))
both_slashes false other is = absurd (true≢false (sym is))

begins_so : (b : ℕ) (bs : List ℕ) → Begins b (merge_slashes (b ∷ bs))
begins_so b [] = (b, [], refl, refl)
begins_so b (c ∷ bs) = by (is_slash b && is_slash c) refl (begins_so c bs)
  where
    by : (two : Bool) → (is_slash b && is_slash c) ≡ two → Begins c (merge_slashes (c ∷ bs))
        → Begins b (if two then merge_slashes (c ∷ bs) else b ∷ merge_slashes (c ∷ bs))
    by true both later =
        (later.0, later.1, later.2, later.3 ∙ both_slashes (is_slash b) (is_slash c) both)
    by false both later = (b, merge_slashes (c ∷ bs), refl, refl)

pub begins_merged : (text : List ℕ) → begins_with_slash text ≡ true → begins_with_slash (merge_slashes text) ≡ true
begins_merged [] is = absurd (true≢false (sym is))
begins_merged (b ∷ bs) is =
    let first = begins_so b bs in
    ap begins_with_slash first.2 ∙ first.3 ∙ is

pub single_merged : (text : List ℕ) → has_double_slash (merge_slashes text) ≡ false
single_merged [] = refl
single_merged (b ∷ []) = refl
single_merged (b ∷ c ∷ bs) = by (is_slash b && is_slash c) refl (single_merged (c ∷ bs))
  where
    by : (two : Bool) → (is_slash b && is_slash c) ≡ two → has_double_slash (merge_slashes (c ∷ bs)) ≡ false
        → has_double_slash (if two then merge_slashes (c ∷ bs) else b ∷ merge_slashes (c ∷ bs)) ≡ false
    by true both later = later
    by false both later =
        let first = begins_so c bs in
        ap (λ rest. has_double_slash (b ∷ rest)) first.2
        ∙ ap₂ (λ one other. (is_slash b && one) || other) first.3 (ap has_double_slash (sym first.2) ∙ later)
        ∙ ap (λ two. two || false) both

pub begins_more : (text more : List ℕ) → begins_with_slash text ≡ true → begins_with_slash (text ++ more) ≡ true
begins_more [] more is = absurd (true≢false (sym is))
begins_more (b ∷ bs) more is = is
