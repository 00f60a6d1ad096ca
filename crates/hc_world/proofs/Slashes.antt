-- Reading a path from slash to slash.
use Rattle.hc_world.proofs.Common.{◌≡◌, ◌≢◌, ℕ, zero, suc, ◌+◌, ◌-◌, ◌<◌, ◌≤◌, cond}
use Rattle.hc_world.proofs.Common.{List, [], ◌∷◌, ◌++◌, length, take, drop, slice_index, sym, ap, ◌∙◌}
use Rattle.hc_world.proofs.Common.{add-zero, arith, ⊎_elim, ne_eqb, cases_lt, take_more, drop_more, take_all}
use Rattle.hc_world.proofs.Common.{drop_all, fronts, HasNoSlash, IsNextSlash, fronts_from, steps_from}
use Rattle.hc_model.specs.Walking.{steps}

-- What no step changes is the same after many.
carried : {A : Type 0} (f : ℕ → A) (from n : ℕ)
    → ((k : ℕ) → from ≤ k → k < from + n → f k ≡ f (k + 1)) → f from ≡ f (from + n)
carried f from zero h = ap f (sym (add-zero from))
carried f from (suc n) h =
    let before : f from ≡ f (from + n) = carried f from n (λ k a b. h k a (omega arith)) in
    let last : f (from + n) ≡ f (from + n + 1) = h (from + n) (omega arith) (omega arith) in
    let e : from + n + 1 ≡ from + suc n = omega arith in
    before ∙ last ∙ ap f e

-- What a cut of a text into the part before a place and the part from it on gives, at that place.
abbrev at_place : {A : Type 0} → (List ℕ → List ℕ → A) → List ℕ → ℕ → A
at_place f path from = f (take from path) (drop from path)

-- Such a function passes over a byte that is no slash.
abbrev PassesOver : {A : Type 0} → (List ℕ → List ℕ → A) → Type 0
PassesOver f = (seen : List ℕ) (b : ℕ) (bs : List ℕ) → b ≢ 47
    → f seen (b ∷ bs) ≡ f (seen ++ b ∷ []) bs

passed : {A : Type 0} (f : List ℕ → List ℕ → A) → PassesOver f → (path : List ℕ) (k : ℕ)
    → k < length path → slice_index path k ≢ 47 → at_place f path k ≡ at_place f path (k + 1)
passed f over path k l ne =
    ap (f (take k path)) (drop_more path k 0 l) ∙ over (take k path) (slice_index path k) (drop (k + 1) path) ne
    ∙ ap (λ s. f s (drop (k + 1) path)) (sym (take_more path k 0 l))

passed_to : {A : Type 0} (f : List ℕ → List ℕ → A) → PassesOver f → (path : List ℕ) (from to : ℕ)
    → from ≤ to → to ≤ length path → HasNoSlash path from to → at_place f path from ≡ at_place f path to
passed_to f over path from to l m free =
    let e : from + (to - from) ≡ to = omega arith in
    carried (at_place f path) from (to - from) (λ k a b. passed f over path k (omega arith) (free k a (omega arith)))
    ∙ ap (at_place f path) e

-- Where there is no further slash.
passed_all : {A : Type 0} (f : List ℕ → List ℕ → A) → PassesOver f → (path : List ℕ) (from : ℕ)
    → HasNoSlash path from (length path) → at_place f path from ≡ f path []
passed_all f over path from free =
    let at_end : (n : ℕ) → length path ≤ n → at_place f path n ≡ f path [] =
    λ n l. ap (λ s. f s (drop n path)) (take_all n path l) ∙ ap (f path) (drop_all n path l) in
    ⊎_elim (λ l. passed_to f over path from (length path) (omega arith) (omega arith) free
    ∙ at_end (length path) (omega arith)) (λ l. at_end from l) (cases_lt from (length path))

-- Up to the next slash.
passed_some : {A : Type 0} (f : List ℕ → List ℕ → A) → PassesOver f → (path : List ℕ) (from slash : ℕ)
    → IsNextSlash path from slash → at_place f path from ≡ f (take slash path) (47 ∷ drop (slash + 1) path)
passed_some f over path from slash is =
    passed_to f over path from slash is.from_on (omega arith) is.first
    ∙ ap (f (take slash path))
    (drop_more path slash 0 is.within ∙ ap (λ b. b ∷ drop (slash + 1) path) is.is_slash)

pub take_slash : (path : List ℕ) (from slash : ℕ) → IsNextSlash path from slash → take slash path ++ 47 ∷ []
    ≡ take (slash + 1) path
take_slash path from slash is =
    sym (take_more path slash 0 is.within ∙ ap (λ b. take slash path ++ b ∷ []) is.is_slash)

-- ---- fronts

fronts_over : PassesOver fronts
fronts_over seen b bs ne = ap (λ t. cond t (seen ∷ fronts (seen ++ b ∷ []) bs) (fronts (seen ++ b ∷ []) bs))
    (ne_eqb b 47 ne)

pub fronts_from-none : (path : List ℕ) (from : ℕ) → HasNoSlash path from (length path)
    → fronts_from path from ≡ []
fronts_from-none = passed_all fronts fronts_over

pub fronts_from-some : (path : List ℕ) (from slash : ℕ) → IsNextSlash path from slash
    → fronts_from path from ≡ take slash path ∷ fronts_from path (slash + 1)
fronts_from-some path from slash is =
    passed_some fronts fronts_over path from slash is
    ∙ ap (λ s. take slash path ∷ fronts s (drop (slash + 1) path)) (take_slash path from slash is)

-- ---- components

steps_over : PassesOver steps
steps_over seen b bs ne =
    ap (λ t. cond t ((seen, b ∷ bs) ∷ steps (seen ++ b ∷ []) bs) (steps (seen ++ b ∷ []) bs)) (ne_eqb b 47 ne)

pub steps_from-none : (name : List ℕ) (from : ℕ) → HasNoSlash name from (length name)
    → steps_from name from ≡ steps name []
steps_from-none = passed_all steps steps_over

pub steps_from-some : (name : List ℕ) (from slash : ℕ) → IsNextSlash name from slash
    → steps_from name from ≡ (take slash name, drop slash name) ∷ steps_from name (slash + 1)
steps_from-some name from slash is =
    let rest : drop slash name ≡ 47 ∷ drop (slash + 1) name = drop_more name slash 0 is.within
    ∙ ap (λ b. b ∷ drop (slash + 1) name) is.is_slash in
    passed_some steps steps_over name from slash is
    ∙ ap (λ s. (take slash name, 47 ∷ drop (slash + 1) name) ∷ steps s (drop (slash + 1) name))
    (take_slash name from slash is)
    ∙ ap (λ r. (take slash name, r) ∷ steps_from name (slash + 1)) (sym rest)
