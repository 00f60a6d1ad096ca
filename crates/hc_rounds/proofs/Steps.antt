-- What holds of all that a step leaves, whatever is looked at.
use Rattle.std.proofs.Common.{◌≡◌, List, [], ◌∷◌, Bool, true, false, if◌then◌else◌, refl, subst}
use Rattle.hc_steps.specs.Run.{Way, goes_on}
unfoldable use Rattle.hc_steps.specs.Run.{run}
use Rattle.hc_steps.specs.Step.{Shown, Shows, Step, leaves, ends, say, look, in_order}
unfoldable use Rattle.hc_steps.specs.Step.{◌>>=◌}

abbrev pub Gives : {E A : Type 0} → (A → Type 0) → Step E A → Type 0
Gives P (leaves left) = P left
Gives P (ends end) = Unit {0}
Gives P (say event rest) = Gives P rest
Gives P (look read rest) = (shown : Shows read) → Gives P (rest shown)

pub gives_run : {E A : Type 0} (P : A → Type 0) (step : Step E A) → Gives P step → (shown : Shown) (left : A)
    → (run step shown).way ≡ goes_on left → P left
unfolding run
gives_run {E} {A} P (leaves own) is shown left same = subst P (inside own left same) is
  where
    inside : (one other : A) → ◌≡◌ {A = Way E A} (goes_on one) (goes_on other) → one ≡ other
    inside one other same = let e = same in cc
gives_run P (ends end) is shown left same = absurd (let none = same in cc)
gives_run P (say event rest) is shown left same = gives_run P rest is shown left same
gives_run P (look read rest) is shown left same =
    gives_run P (rest (shown read)) (is (shown read)) shown left same

pub gives_then : {E A B : Type 0} (P : A → Type 0) (Q : B → Type 0) (step : Step E A) (next : A → Step E B)
    → Gives P step → ((left : A) → P left → Gives Q (next left)) → Gives Q (step >>= next)
unfolding ◌>>=◌
gives_then P Q (leaves left) next is each = each left is
gives_then P Q (ends end) next is each = tt
gives_then P Q (say event rest) next is each = gives_then P Q rest next is each
gives_then P Q (look read rest) next is each = λ shown. gives_then P Q (rest shown) next (is shown) each

pub gives_as : {E A : Type 0} (P Q : A → Type 0) (step : Step E A) → Gives P step
    → ((left : A) → P left → Q left) → Gives Q step
gives_as P Q (leaves left) is each = each left is
gives_as P Q (ends end) is each = tt
gives_as P Q (say event rest) is each = gives_as P Q rest is each
gives_as P Q (look read rest) is each = λ shown. gives_as P Q (rest shown) (is shown) each

-- What holds of all that is left where something is so is so of each.
pub gives_where : {E A : Type 0} (H : Type 0) (P : A → Type 0) (step : Step E A) → (H → Gives P step)
    → Gives (λ left. H → P left) step
gives_where H P (leaves left) is = is
gives_where H P (ends end) is = tt
gives_where H P (say event rest) is = gives_where H P rest is
gives_where H P (look read rest) is = λ shown. gives_where H P (rest shown) (λ so. is so shown)

abbrev pub Any : {A : Type 0} → A → Type 0
Any left = Unit {0}

pub gives_any : {E A : Type 0} (step : Step E A) → Gives Any step
gives_any (leaves left) = tt
gives_any (ends end) = tt
gives_any (say event rest) = gives_any rest
gives_any (look read rest) = λ shown. gives_any (rest shown)

pub gives_if : {E A : Type 0} (P : A → Type 0) (is : Bool) (one other : Step E A) → (is ≡ true → Gives P one)
    → (is ≡ false → Gives P other) → Gives P (if is then one else other)
gives_if P true one other first rest = first refl
gives_if P false one other first rest = rest refl

pub gives_each : {E A B : Type 0} (P : B → Type 0) (step : B → A → Step E B)
    → ((so_far : B) (item : A) → P so_far → Gives P (step so_far item))
    → (items : List A) (so_far : B) → P so_far → Gives P (in_order step so_far items)
unfolding ◌>>=◌
gives_each P step each [] so_far is = is
gives_each P step each (item ∷ items) so_far is =
    gives_then P P (step so_far item) (λ so_far. in_order step so_far items) (each so_far item is)
    (λ so_far is. gives_each P step each items so_far is)
