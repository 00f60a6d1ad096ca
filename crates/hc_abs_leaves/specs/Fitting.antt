-- Leaves and nodes as code has them.
use Rattle.std.specs.Prelude.{◌≡◌, ℕ, Option}
use Rattle.std.specs.Rc.{rc_value}
use Rattle.hc_addr.specs.declared.addr.Addr.{Addr}
use Rattle.hc_model.specs.declared.request.Caller.{Caller}
use Rattle.hc_abs_force.specs.Merging.{merges}
use Rattle.hc_abs_left.specs.Grounds.{HasClients, SettingsFit, shown_in, site_in}
use Rattle.hc_abs_left.specs.declared.ground.Ground.{Ground}
use Rattle.hc_abs_pass.specs.Ends.{EndsAt, left_of}
use Rattle.hc_abs_pass.specs.Listing.{so_far_of}
use Rattle.hc_abs_pass.specs.Passing.{Finish, Settings, ruled, stopped}
use Rattle.hc_abs_restart.specs.Restarted.{is_among}
use Rattle.hc_abs_rw.specs.Applied.{next_of}
use Rattle.hc_abs_rw.specs.RuleBranches.{Rests}
use Rattle.hc_abs_tree.specs.Trees.{At, Leaf, Next, Node, Soil, directory, ends, goes, pass, server}
use Rattle.hc_abs_leaves.specs.declared.leaf.Leaf.{Leaf as LeafIn}
use Rattle.hc_abs_leaves.specs.declared.leaf.LeafEnd.{LeafEnd}
use Rattle.hc_abs_leaves.specs.declared.leaf.LeafEnd.TheVariants as end
use Rattle.hc_abs_leaves.specs.declared.node.At.{At as AtIn}
use Rattle.hc_abs_leaves.specs.declared.node.At.TheVariants as at
use Rattle.hc_abs_leaves.specs.declared.node.Node.{Node as NodeIn}
use Rattle.hc_abs_leaves.specs.declared.node.Pending.{Pending}
use Rattle.hc_abs_leaves.specs.declared.node.Pending.TheVariants as pending

-- What the tree is made for, from what is lent. How deep the world is, is left open.
abbrev pub soil_in : ℕ → Ground → Soil
soil_in levels ground = record {
  site = site_in ground;
  shown = shown_in ground;
  levels = levels;
  merges = merges;
  names = is_among ground.names.now;
}

abbrev pub EndFits : Caller → LeafEnd → Finish → Type 0
EndFits caller (end.Stopped left) finish = finish ≡ stopped (left_of left)
EndFits caller (end.Ruled next) finish = finish ≡ ruled (next_of caller next)

pub record LeafFits (client : Option Addr) (caller : Caller) (own : LeafIn) (leaf : Leaf) : Type 0 where
  pub at : EndsAt client own.tied leaf.known
  pub decisions : leaf.decisions ≡ own.decisions
  pub require : leaf.require ≡ own.require
  pub finish : EndFits caller own.end leaf.finish

abbrev pub AtFits : ℕ → AtIn → At → Type 0
AtFits number at.Pass found = found ≡ pass number
AtFits number (at.Server round so_far) found = found ≡ server number round (so_far_of so_far)
AtFits number (at.Directory round settings so_far) found =
    (own : Settings) × SettingsFit (rc_value settings) own
    × (found ≡ directory number round own (so_far_of so_far))

pub record NodeFits (ground : Ground) (own : NodeIn) (node : Node) : Type 0 where
  pub at : AtFits own.number own.at node.at
  pub rests : Rests ground.client own.tied node.known
  pub clients : HasClients ground node.known
  pub decided : node.decided ≡ own.decided

abbrev pub PendingFits : Ground → Pending → Next → Type 0
PendingFits ground (pending.Ends own) (ends leaf) = LeafFits ground.client ground.tests.now own leaf
PendingFits ground (pending.Goes own) (goes node) = NodeFits ground own node
PendingFits ground own next = ⊥
