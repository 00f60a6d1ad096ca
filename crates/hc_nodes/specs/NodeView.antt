-- What the nodes of `src/` are seen as.
use Rattle.std.specs.Prelude.{◌≡◌, List, [], ◌∷◌, map, Result, Ok, Err, Vec}
use Rattle.std.specs.declared.alloc.Global.{Global}
use Rattle.hc_base.specs.declared.fault.AtLine.{AtLine}
use Rattle.hc_base.specs.declared.fault.Fault.{Fault}
use Rattle.hc_base.specs.declared.fault.Fault.TheVariants.{NoMemory, Refused}
use Rattle.hc_nodes.specs.declared.node.Node.{Node, fold-Node}
use Rattle.hc_nodes.specs.declared.node.Node.TheOpen.{Node-F}
use Rattle.hc_nodes.specs.Tree.{Nodes, none, directive, block}

-- Each puts a node before others.
abbrev pub joined : List (Nodes → Nodes) → Nodes
joined [] = none
joined (put ∷ puts) = put (joined puts)

-- One level, with each node inside already seen.
abbrev pub put_step : Node-F (Nodes → Nodes) → Nodes → Nodes
put_step (Node-F.Directive line name rest) next = directive line.now name.now rest.now next
put_step (Node-F.Block line name args body) next = block line.now name.now args.now (joined body.items) next

abbrev pub put_before : Node → Nodes → Nodes
put_before = fold-Node (Nodes → Nodes) put_step

-- Nodes one behind another.
abbrev pub nodes_view : List Node → Nodes
nodes_view nodes = joined (map put_before nodes)

-- The answer is the nodes or the refusal that is wanted, unless memory was refused.
abbrev pub GivesNodes : Result (Vec Node Global) (Fault AtLine) → Result Nodes AtLine → Type 0
GivesNodes (Ok nodes) wanted = wanted ≡ Ok (nodes_view nodes.items)
GivesNodes (Err (Refused refusal)) wanted = wanted ≡ Err refusal
GivesNodes (Err NoMemory) wanted = Unit {0}
