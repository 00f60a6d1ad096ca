-- What two trees that are joined say, from what each says.
use Rattle.std.proofs.Common.{◌≡◌, ℕ, ◌+◌, ◌<◌, List, [], ◌∷◌, get_or, length, map, take, Option}
use Rattle.std.proofs.Common.{Some, None, refl, sym, ap, ◌∙◌}
use Rattle.std.proofs.lemmas.List.Sums.{fold_more}
use Rattle.std.specs.Option.{option_map}
use Rattle.hc_authz.specs.Values.{level_value, value, value_behind}
use Rattle.hc_authz.specs.declared.tree.Tri.{Tri}
use Rattle.hc_model.specs.Joined.{joined_behind, required_by}
use Rattle.hc_model.specs.declared.authorization.Join.{Join}
use Rattle.hc_model.specs.declared.authorization.Merging.{Merging}
use Rattle.hc_model.specs.declared.authorization.Merging.TheVariants.{Off, And, Or}
use Rattle.hc_model.specs.declared.authorization.ReqTree.{ReqTree, fold-roll-ReqTree}
use Rattle.hc_model.specs.declared.authorization.ReqTree.TheOpen.{ReqTree-F}
use Rattle.hc_model.specs.declared.authorization.ReqTree.TheVariants.{All, AnyOf, rolls-All, rolls-AnyOf}
use Rattle.hc_model.specs.declared.request.Caller.{Caller}

all_says : (caller : Caller) (trees : List ReqTree)
    → value caller (All trees) ≡ level_value caller (ReqTree-F.All (map (value caller) trees))
all_says caller trees = ap (value caller) (sym (rolls-All trees)) ∙ fold-roll-ReqTree Tri (level_value caller)
    (ReqTree-F.All trees)

any_says : (caller : Caller) (trees : List ReqTree) → value caller (AnyOf trees)
    ≡ level_value caller (ReqTree-F.AnyOf (map (value caller) trees))
any_says caller trees = ap (value caller) (sym (rolls-AnyOf trees)) ∙ fold-roll-ReqTree Tri (level_value caller)
    (ReqTree-F.AnyOf trees)

joined_says : (caller : Caller) (before : Option ReqTree) (own : ReqTree) (how : Merging)
    → option_map (value caller) (joined_behind before (Some own) how)
    ≡ Some (value_behind (option_map (value caller) before) (value caller own) how)
joined_says caller None own how = refl
joined_says caller (Some before) own Off = refl
joined_says caller (Some before) own And = ap Some (all_says caller (before ∷ own ∷ []))
joined_says caller (Some before) own Or = ap Some (any_says caller (before ∷ own ∷ []))

-- One more of them.
pub one_more_says : (caller : Caller) (joins : List Join) (i : ℕ) (d : Join) → i < length joins
    → option_map (value caller) (required_by (take (i + 1) joins))
    ≡ Some (value_behind (option_map (value caller) (required_by (take i joins)))
    (value caller (get_or joins i d).tree) (get_or joins i d).how)
one_more_says caller joins i d lt =
    ap (option_map (value caller))
    (fold_more (λ so_far (join : Join). joined_behind so_far (Some join.tree) join.how) None joins i d lt)
    ∙ joined_says caller (required_by (take i joins)) (get_or joins i d).tree (get_or joins i d).how
