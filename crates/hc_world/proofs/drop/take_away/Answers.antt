use Rattle.hc_world.proofs.Common.{◌≡◌, ◌+◌, ◌∷◌, ap, sym, ◌∙◌, drop, drop_more, get, is_dir}
use Rattle.hc_world.specs.Drops.{paths_of}
use Rattle.hc_world.specs.Rows.{adjusted, with_all}
use Rattle.hc_world.proofs.Drops.{without-more}
use Rattle.hc_world.proofs.drop.take_away.Goals as goal

pub loop-path-preserved : goal.loop-path-preserved
loop-path-preserved c =
    let paths = c.args.paths.now in
    let i = c.loop-path.path-index in
    let item = c.path-item.result in
    let old = c.loop-path.files.nodes in
    let rows = c.loop-path.files.rows in
    let path = c.as_slice-path.result.now in
    let is_path = c.as_slice-path.ensures.value in
    let list : paths_of (drop i paths) ≡ path ∷ paths_of (drop (i + 1) paths) =
    ap paths_of (drop_more paths i item c.loop-path-test.true) ∙ ap (λ p. p.items ∷ paths_of (drop (i + 1) paths))
    (sym c.path-item.is) ∙ ap (λ p. p ∷ paths_of (drop (i + 1) paths)) (sym is_path) in
    let marked : c.mark_all.new.self ≡ adjusted rows path (with_all (is_dir (get old path)) c.args.number) =
    c.mark_all.ensures ∙ ap (λ d. adjusted rows path (with_all d c.args.number)) c.is_dir-is_dir.ensures in
    let step = without-more old c.remove.new.self rows c.mark_all.new.self c.args.number path
    (paths_of (drop (i + 1) paths)) (paths_of (drop i paths)) list
    c.remove.ensures marked in
    (step.0 ∙ c.loop-path.invariant.0, step.1 ∙ c.loop-path.invariant.1)
