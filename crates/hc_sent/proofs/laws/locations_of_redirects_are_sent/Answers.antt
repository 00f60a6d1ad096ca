use Rattle.hc_sent.proofs.SentParts.{each_directed_is_sent}
use Rattle.hc_sent.proofs.laws.locations_of_redirects_are_sent.Goals as goal

-- src/laws.rt
pub returns : goal.returns
returns c = each_directed_is_sent
