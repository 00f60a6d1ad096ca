-- The places of two trees that are joined.
use Rattle.std.proofs.Common.{◌≡◌, ℕ, ◌+◌, ◌<◌, List, [], ◌∷◌, ◌++◌, get_or, length, map}
use Rattle.std.proofs.Common.{take, Option, Some, None, refl, sym, ap, ◌∙◌}
use Rattle.std.proofs.lemmas.List.{append-nil}
use Rattle.std.proofs.lemmas.List.Sums.{fold_more}
use Rattle.hc_base.specs.declared.place.Place.{Place}
use Rattle.hc_model.specs.Joined.{joined_behind, required_by}
use Rattle.hc_model.specs.declared.authorization.Join.{Join}
use Rattle.hc_model.specs.declared.authorization.Merging.{Merging}
use Rattle.hc_model.specs.declared.authorization.Merging.TheVariants.{Off, And, Or}
use Rattle.hc_model.specs.declared.authorization.ReqTree.{ReqTree, fold-roll-ReqTree}
use Rattle.hc_model.specs.declared.authorization.ReqTree.TheOpen.{ReqTree-F}
use Rattle.hc_model.specs.declared.authorization.ReqTree.TheVariants.{All, AnyOf, rolls-All, rolls-AnyOf}
use Rattle.hc_serve.specs.Needs.{all_of, level_places, needs_of, places_in, places_joined}

two : (before own : List Place) → all_of (before ∷ own ∷ []) ≡ before ++ own
two before own = ap (λ more. before ++ more) (append-nil own)

all_places : (trees : List ReqTree) → places_in (All trees) ≡ all_of (map places_in trees)
all_places trees = ap places_in (sym (rolls-All trees)) ∙ fold-roll-ReqTree (List Place) level_places
    (ReqTree-F.All trees)

any_places : (trees : List ReqTree) → places_in (AnyOf trees) ≡ all_of (map places_in trees)
any_places trees = ap places_in (sym (rolls-AnyOf trees)) ∙ fold-roll-ReqTree (List Place) level_places
    (ReqTree-F.AnyOf trees)

joined_needs : (before : Option ReqTree) (own : ReqTree) (how : Merging)
    → needs_of (joined_behind before (Some own) how) ≡ places_joined (needs_of before) (places_in own) how
joined_needs None own Off = refl
joined_needs None own And = refl
joined_needs None own Or = refl
joined_needs (Some before) own Off = refl
joined_needs (Some before) own And = all_places (before ∷ own ∷ []) ∙ two (places_in before) (places_in own)
joined_needs (Some before) own Or = any_places (before ∷ own ∷ []) ∙ two (places_in before) (places_in own)

-- One more of them.
pub one_more_needs : (joins : List Join) (i : ℕ) (d : Join) → i < length joins
    → needs_of (required_by (take (i + 1) joins))
    ≡ places_joined (needs_of (required_by (take i joins))) (places_in (get_or joins i d).tree) (get_or joins i d).how
one_more_needs joins i d lt =
    ap needs_of (fold_more (λ so_far (join : Join). joined_behind so_far (Some join.tree) join.how) None joins i d lt)
    ∙ joined_needs (required_by (take i joins)) (get_or joins i d).tree (get_or joins i d).how
