use Rattle.hc_abs_rw.proofs.Knowing.{every_given}
use Rattle.hc_abs_rw.proofs.elements.client_element.Goals as goal

pub returns-in_ok-every-in-None : goal.returns-in_ok-every-in-None
returns-in_ok-every-in-None c =
    every_given c.args.client c.in_ok-every-in-None.every c.in-None.is c.in_ok-every-in-None.ensures
