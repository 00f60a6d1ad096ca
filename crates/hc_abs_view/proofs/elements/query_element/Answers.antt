use Rattle.hc_abs_view.proofs.Pieces.{any_query}
use Rattle.hc_abs_view.proofs.elements.query_element.Goals as goal

pub returns-in_ok-every-in-Any : goal.returns-in_ok-every-in-Any
returns-in_ok-every-in-Any c =
    any_query c.args.scene c.in_ok-every-in-Any.every c.in-Any.is c.in_ok-every-in-Any.ensures
