-- Where a leaf sends requests, as code has it.
use Rattle.std.specs.Prelude.{◌≡◌, Option, None, Some}
use Rattle.hc_addr.specs.declared.addr.Addr.{Addr}
use Rattle.hc_model.specs.declared.request.Caller.{Caller}
use Rattle.hc_abs_leaves.specs.Fitting.{LeafFits}
use Rattle.hc_abs_leaves.specs.declared.leaf.Leaf.{Leaf as LeafIn}
use Rattle.hc_abs_tree.specs.Trees.{Leaf}
use Rattle.hc_ends.specs.Chains.{IsSent, Sends, nowhere, to}
use Rattle.hc_ends.specs.declared.sending.Sent.{Sent}

abbrev pub sends_of : Option Sent → Sends
sends_of None = nowhere
sends_of (Some sent) = to sent.status sent.parts.items

abbrev pub IsSentIn : Caller → LeafIn → Option Sent → Type 0
IsSentIn caller own found = (client : Option Addr) (leaf : Leaf) → LeafFits client caller own leaf
    → IsSent caller leaf.known.cell leaf.finish (sends_of found)
