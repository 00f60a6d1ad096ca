use Rattle.std.proofs.Common.{arith}
use Rattle.hc_rounds.proofs.Listing.{RoundShortens, round_shortens}
use Rattle.hc_rounds.proofs.Steps.{gives_run}
use Rattle.hc_rounds.proofs.laws.rounds_shorten.Goals as goal
use Rattle.hc_rw_eval.specs.Lists.{from_place}
use Rattle.hc_rw_eval.specs.declared.run.Round.TheVariants.{Again}

pub returns : goal.returns
returns c context looks shown rules round before next forms again =
    gives_run (RoundShortens context before.state) (from_place context looks round 0 rules before)
    (round_shortens context before.state looks round 0 rules before forms (λ none. (none, omega arith))) shown
    (Again next) again
