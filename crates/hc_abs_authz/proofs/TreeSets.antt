-- What trees may say.
use Rattle.std.proofs.Common.{◌≡◌, ◌∙◌, ℕ, ◌+◌, ◌<◌, ◌≤◌, List, [], ◌∷◌, map}
use Rattle.std.proofs.Common.{length, take, drop, get_or, Bool, Option, Some}
use Rattle.std.proofs.Common.{None, refl, sym, ap, subst, add-one, drop-cons}
use Rattle.std.proofs.Math.ListN.{drop_of_length-le}
use Rattle.std.proofs.lemmas.List.Sums.{fold_more}
use Rattle.hc_authz.specs.Values.{all_value, any_value, none_value}
use Rattle.hc_authz.specs.declared.tree.Tri.{Tri}
use Rattle.hc_model.specs.Joined.{joined_behind, required_by}
use Rattle.hc_model.specs.declared.authorization.Join.{Join}
use Rattle.hc_model.specs.declared.authorization.Merging.{Merging}
use Rattle.hc_model.specs.declared.authorization.Merging.TheVariants.{Off, And, Or}
use Rattle.hc_model.specs.declared.authorization.ReqTree.{ReqTree, fold-roll-ReqTree}
use Rattle.hc_model.specs.declared.authorization.ReqTree.TheOpen.{ReqTree-F}
use Rattle.hc_model.specs.declared.authorization.ReqTree.TheVariants.{All, AnyOf, NoneOf, rolls-All, rolls-AnyOf}
use Rattle.hc_model.specs.declared.authorization.ReqTree.TheVariants.{rolls-NoneOf}
use Rattle.hc_model.specs.declared.request.Request.{Request}
use Rattle.hc_abs_authz.specs.Asking.{AreValuesOf, MembersSay, TreeSays, says}
use Rattle.hc_abs_pass.specs.Authorizing.{Asked, asked_of, level_asked, of_members}
use Rattle.hc_abs_authz.specs.Leaves.{AreValues, AreVotes, TreeMay, no_votes, two_values, values_behind, values_by}
use Rattle.hc_abs_authz.specs.Leaves.{with_member}
use Rattle.hc_abs_authz.specs.declared.leaves.Asking.{Asking}
use Rattle.hc_abs_authz.specs.declared.values.Container.TheVariants as container
use Rattle.hc_abs_authz.specs.declared.values.Values.{Values}
use Rattle.hc_abs_authz.specs.declared.values.Votes.{Votes}
use Rattle.hc_abs_authz.proofs.Sequences.{VotesSoFar, container_tree, reads, votes_begin, votes_end, votes_go_on}

module _ (request : Request) (trees : List ReqTree) where
  pub all_is : asked_of request (All trees) ≡ of_members all_value (map (asked_of request) trees)
  all_is =
      ap (asked_of request) (sym (rolls-All trees))
      ∙ fold-roll-ReqTree Asked (level_asked request) (ReqTree-F.All trees)

  pub any_is : asked_of request (AnyOf trees) ≡ of_members any_value (map (asked_of request) trees)
  any_is =
      ap (asked_of request) (sym (rolls-AnyOf trees))
      ∙ fold-roll-ReqTree Asked (level_asked request) (ReqTree-F.AnyOf trees)

  pub none_is : asked_of request (NoneOf trees) ≡ of_members none_value (map (asked_of request) trees)
  none_is =
      ap (asked_of request) (sym (rolls-NoneOf trees))
      ∙ fold-roll-ReqTree Asked (level_asked request) (ReqTree-F.NoneOf trees)

module _ (asking : Asking) where
  abbrev asked_by_tree : ReqTree → Asked
  asked_by_tree = asked_of asking.request.now

  module _ (trees : List ReqTree) (found : Votes) (are : AreVotes (MembersSay asking trees) found) where
    values_made : (table : Bool → Bool → Tri) (tree : ReqTree) (made : Values)
        → asked_by_tree tree ≡ of_members table (map asked_by_tree trees) → made ≡ values_by table found
        → AreValues (TreeSays asking tree) made
    values_made table tree made is by_table =
        subst (λ asked. AreValues (TreeMay (says asking) asked) made) (sym is)
        (subst (AreValues (TreeMay (says asking) (of_members table (map asked_by_tree trees)))) (sym by_table)
        (container_tree (says asking) table (map asked_by_tree trees) found are))

    pub all_values : (made : Values) → made ≡ values_by all_value found → AreValues (TreeSays asking (All trees)) made
    all_values made = values_made all_value (All trees) made (all_is asking.request.now trees)

    pub any_values : (made : Values) → made ≡ values_by any_value found → AreValues (TreeSays asking (AnyOf trees)) made
    any_values made = values_made any_value (AnyOf trees) made (any_is asking.request.now trees)

    pub none_values : (made : Values) → made ≡ values_by none_value found
        → AreValues (TreeSays asking (NoneOf trees)) made
    none_values made = values_made none_value (NoneOf trees) made (none_is asking.request.now trees)

  -- ---- members, one after the other

  pub next_vote : (trees : List ReqTree) (i : ℕ) (d : ReqTree) (found made : Votes) (values : Values) → i < length trees
      → VotesSoFar (says asking) (map asked_by_tree trees) (map asked_by_tree (drop i trees)) found
      → AreValues (TreeSays asking (get_or trees i d)) values → made ≡ with_member found values
      → VotesSoFar (says asking) (map asked_by_tree trees) (map asked_by_tree (drop (i + 1) trees)) made
  next_vote trees i d found made values within so_far are is =
      let all = map asked_by_tree trees in
      let left = map asked_by_tree (drop (i + 1) trees) in
      let rest : drop i trees ≡ get_or trees i d ∷ drop (i + 1) trees =
      drop-cons trees i d within ∙ ap (λ j. get_or trees i d ∷ drop j trees) (sym (add-one i)) in
      subst (VotesSoFar (says asking) all left) (sym is)
      (votes_go_on (says asking) all left (asked_by_tree (get_or trees i d)) found values
      (reads (says asking) asking.request.now (get_or trees i d))
      (subst (λ left. VotesSoFar (says asking) all (map asked_by_tree left) found) rest so_far) are)

  pub past_votes : (trees : List ReqTree) (i : ℕ) (found : Votes) → length trees ≤ i
      → VotesSoFar (says asking) (map asked_by_tree trees) (map asked_by_tree (drop i trees)) found
      → AreVotes (MembersSay asking trees) found
  past_votes trees i found past so_far =
      votes_end (says asking) (map asked_by_tree trees) found
      (subst (λ left. VotesSoFar (says asking) (map asked_by_tree trees) (map asked_by_tree left) found)
      (drop_of_length-le trees past) so_far)

  -- ---- trees that are joined

  module _ (before own : ReqTree) (one other : Values) (is : AreValues (TreeSays asking before) one)
      (also : AreValues (TreeSays asking own) other) where
    abbrev two : List ReqTree
    two = before ∷ own ∷ []

    two_vote : AreVotes (MembersSay asking two) (with_member (with_member no_votes one) other)
    two_vote =
        let all = map asked_by_tree two in
        let first = with_member no_votes one in
        votes_end (says asking) all (with_member first other)
        (votes_go_on (says asking) all [] (asked_by_tree own) first other (reads (says asking) asking.request.now own)
        (votes_go_on (says asking) all (asked_by_tree own ∷ []) (asked_by_tree before) no_votes one
        (reads (says asking) asking.request.now before) (votes_begin (says asking) all) is) also)

    pub two_all : AreValues (TreeSays asking (All two)) (two_values container.All one other)
    two_all = all_values two (with_member (with_member no_votes one) other) two_vote _ refl

    pub two_any : AreValues (TreeSays asking (AnyOf two)) (two_values container.AnyOf one other)
    two_any = any_values two (with_member (with_member no_votes one) other) two_vote _ refl

  values_join : (before : Option ReqTree) (so_far : Option Values) (own : ReqTree) (values : Values) (how : Merging)
      → AreValuesOf asking before so_far → AreValues (TreeSays asking own) values
      → AreValuesOf asking (joined_behind before (Some own) how) (Some (values_behind so_far values how))
  values_join None so_far own values how is also =
      (values, ap (λ so_far. Some (values_behind so_far values how)) is, also)
  values_join (Some before) so_far own values Off is also =
      (values, ap (λ so_far. Some (values_behind so_far values Off)) is.1, also)
  values_join (Some before) so_far own values And is also = (
    two_values container.All is.0 values,
    ap (λ so_far. Some (values_behind so_far values And)) is.1,
    two_all before own is.0 values is.2 also,
  )
  values_join (Some before) so_far own values Or is also = (
    two_values container.AnyOf is.0 values,
    ap (λ so_far. Some (values_behind so_far values Or)) is.1,
    two_any before own is.0 values is.2 also,
  )

  pub next_join : (joins : List Join) (i : ℕ) (d : Join) (so_far : Option Values) (values made : Values)
      → i < length joins → AreValuesOf asking (required_by (take i joins)) so_far
      → AreValues (TreeSays asking (get_or joins i d).tree) values
      → made ≡ values_behind so_far values (get_or joins i d).how
      → AreValuesOf asking (required_by (take (i + 1) joins)) (Some made)
  next_join joins i d so_far values made within is also by_how =
      let join = get_or joins i d in
      subst (λ before. AreValuesOf asking before (Some made))
      (sym (fold_more (λ so_far (join : Join). joined_behind so_far (Some join.tree) join.how) None joins i d within))
      (subst
      (λ made. AreValuesOf asking (joined_behind (required_by (take i joins)) (Some join.tree) join.how) (Some made))
      (sym by_how) (values_join (required_by (take i joins)) so_far join.tree values join.how is also))
