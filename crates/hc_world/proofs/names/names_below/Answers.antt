use Rattle.hc_world.proofs.Common.{◌≡◌, [], ◌∷◌, ◌++◌, Some, None, append-nil, sym, ap, ◌∙◌}
use Rattle.hc_world.proofs.Common.{subst, rules, keys, filter_map, option_map, GoesOn, keys_from, name_behind}
use Rattle.hc_world.proofs.Places.{fewer_left, keys_from-nil, names-behind, names_end, names_go_on}
use Rattle.hc_world.proofs.names.names_below.Goals as goal

pub loop-path-init : goal.loop-path-init
loop-path-init c =
    let world = c.args.nodes.now in
    ap (λ names. names ++ filter_map (name_behind c.in_ok-front.front.items)
    (keys_from c.new-place.result.items world))
    c.new-names.ensures
    ∙ ap (λ place. filter_map (name_behind c.in_ok-front.front.items) (keys_from place world))
    c.new-place.ensures.items
    ∙ ap (filter_map (name_behind c.in_ok-front.front.items)) (keys_from-nil world)

pub loop-path-smaller : goal.loop-path-smaller
loop-path-smaller c =
    let world = c.args.nodes.now in
    let front = c.in_ok-front.front.items in
    let path = c.in-Some.path.now in
    let on : GoesOn front path (Some c.in-Some-2.next.items) =
    subst (λ o. GoesOn front path (option_map (λ p. p.items) o)) c.in-Some-2.is
    (subst (λ f. GoesOn f path (option_map (λ p. p.items) c.in_ok-next.field-0)) c.deref-in-Some.ensures.value
    c.in_ok-next.ensures) in
    fewer_left front c.loop-path.place.items path c.in-Some-2.next.items world c.in-Some.ensures.some on

pub loop-path-preserved : goal.loop-path-preserved
loop-path-preserved c =
    let world = c.args.nodes.now in
    let front = c.in_ok-front.front.items in
    let path = c.in-Some.path.now in
    let names = c.loop-path.names in
    let next = c.in-Some-2.next.items in
    let on : GoesOn front path (Some next) =
    subst (λ o. GoesOn front path (option_map (λ p. p.items) o)) c.in-Some-2.is
    (subst (λ f. GoesOn f path (option_map (λ p. p.items) c.in_ok-next.field-0)) c.deref-in-Some.ensures.value
    c.in_ok-next.ensures) in
    let pushed : c.push_name.new.names ≡ names ++ filter_map (name_behind front) (path ∷ []) = search rules in
    ap (λ all. all ++ filter_map (name_behind front) (keys_from next world)) pushed
    ∙ names_go_on front c.loop-path.place.items path next names (filter_map (name_behind front) (keys world)) world
    c.loop-path.invariant c.in-Some.ensures.some on

pub returns-in-None : goal.returns-in-None
returns-in-None c =
    let world = c.args.nodes.now in
    let front = c.in_ok-front.front.items in
    let path = c.in-Some.path.now in
    let names = c.loop-path.names in
    let on : GoesOn front path None =
    subst (λ o. GoesOn front path (option_map (λ p. p.items) o)) c.in-None.is
    (subst (λ f. GoesOn f path (option_map (λ p. p.items) c.in_ok-next.field-0)) c.deref-in-Some.ensures.value
    c.in_ok-next.ensures) in
    let pushed : c.push_name.new.names ≡ names ++ filter_map (name_behind front) (path ∷ []) = search rules in
    pushed
    ∙ names_end front c.loop-path.place.items path names (filter_map (name_behind front) (keys world)) world
    c.loop-path.invariant c.in-Some.ensures.some on
    ∙ names-behind c.args.directory.now front (keys world) c.in_ok-front.ensures

pub returns : goal.returns
returns c =
    let world = c.args.nodes.now in
    let front = c.in_ok-front.front.items in
    let none : keys_from c.loop-path.place.items world ≡ [] = search rules in
    sym (append-nil c.loop-path.names)
    ∙ ap (λ left. c.loop-path.names ++ filter_map (name_behind front) left) (sym none)
    ∙ c.loop-path.invariant
    ∙ names-behind c.args.directory.now front (keys world) c.in_ok-front.ensures
