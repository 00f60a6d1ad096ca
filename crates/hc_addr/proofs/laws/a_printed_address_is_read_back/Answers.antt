use Rattle.hc_addr.proofs.ReadBack.{read_back}
use Rattle.hc_addr.proofs.laws.a_printed_address_is_read_back.Goals as goal

pub returns : goal.returns
returns c = read_back
