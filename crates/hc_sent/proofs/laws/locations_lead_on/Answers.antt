use Rattle.hc_sent.proofs.Reading.{led_on}
use Rattle.hc_sent.proofs.laws.locations_lead_on.Goals as goal

pub returns : goal.returns
returns c = led_on
