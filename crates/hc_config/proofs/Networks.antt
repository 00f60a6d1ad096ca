-- One network more.
use Rattle.std.proofs.Common.{◌≡◌, List, [], ◌∷◌, ◌++◌, Result, Ok, Err, refl, ap, sym, append_assoc}
use Rattle.hc_addr.specs.declared.net.Net.{Net}
use Rattle.hc_base.specs.declared.fault.AtByte.{AtByte}
use Rattle.hc_config.specs.RequireViews.{with_nets}
use Rattle.hc_config.specs.Requires.{with_net}

pub one_net_more : (nets : List Net) (net : Net) (more : Result (List Net) AtByte)
    → with_nets nets (with_net (Ok net) more) ≡ with_nets (nets ++ net ∷ []) more
one_net_more nets net (Err broken) = refl
one_net_more nets net (Ok more) = ap Ok (sym (append_assoc nets (net ∷ []) more))
