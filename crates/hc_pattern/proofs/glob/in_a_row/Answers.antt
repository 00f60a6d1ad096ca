use Rattle.hc_pattern.proofs.Common.{ap, ◌∙◌, map, pattern_of}
use Rattle.hc_pattern.proofs.GlobLemmas.{row_before, row_before-finish, row_step}
use Rattle.hc_pattern.proofs.Nodes.{is_finish}
use Rattle.hc_pattern.proofs.glob.in_a_row.Goals as goal

pub patterns-init : goal.patterns-init
patterns-init c = let patterns = map pattern_of c.args.patterns.items in ap (row_before patterns) is_finish
    ∙ row_before-finish patterns

pub patterns-preserved : goal.patterns-preserved
patterns-preserved c =
    row_step c.patterns.patterns.items c.pop.new.self.items c.in-Some.one c.patterns.pat _ c.in-Some.ensures.items
    c.in_ok-pat.ensures ∙ c.patterns.invariant
