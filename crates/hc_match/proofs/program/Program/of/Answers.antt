use Rattle.hc_match.proofs.Common.{◌++◌, ◌∷◌, ◌∙◌, [], length, ap, pattern_of, kept_ways}
use Rattle.hc_match.specs.declared.program.Step.TheVariants.{Done}
use Rattle.hc_match.proofs.Compiled.{whole}
use Rattle.hc_match.proofs.program.Program.of.Goals as goal

pub returns : goal.returns
returns c text =
    whole text c.compile.new.self.steps.items (kept_ways text (pattern_of c.args.pat.now)) c.in_ok-start.start
    (rw (
      ← (c.in_ok-done.ensures.1 ∙ ap (λ l. l ++ Done ∷ []) c.new.ensures.items),
      ← (c.in_ok-done.ensures.0 ∙ ap length c.new.ensures.items),
    ) (c.in_ok-start.ensures.ways text))
