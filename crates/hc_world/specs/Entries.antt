-- How the entries of the code stand for a world.
use Rattle.std.specs.Prelude.{ℕ, List, map, if◌then◌else◌, Vec, string_bytes, Result, Ok, Err}
use Rattle.std.specs.declared.alloc.Global.{Global}
use Rattle.std.specs.FinMap.{from_entries, get, insert}
use Rattle.std.specs.List.{list_any}
use Rattle.hc_base.specs.declared.codes.TheConstants.{UNDER_FILE}
use Rattle.hc_model.specs.Node.{Node, dir, file, text, is_file}
use Rattle.hc_model.specs.World.{World, with_dirs}
use Rattle.hc_world.specs.declared.nodes.Entry.{Entry}
use Rattle.hc_world.specs.declared.nodes.Entry.TheVariants as entry

abbrev pub node_of : Entry → Node
node_of entry.Dir = dir
node_of entry.File = file
node_of (entry.Text bytes) = text (string_bytes bytes)

-- an entry as a path and what the world has there
abbrev pub entry_of : Vec ℕ Global × Entry → List ℕ × Node
entry_of e = (e.0.items, node_of e.1)

abbrev pub world_of : List (Vec ℕ Global × Entry) → World
world_of entries = from_entries (map entry_of entries)

-- The world with a node at a path and directories above it, or the refusal where one of these is a file.
abbrev pub add_in : World → List (List ℕ) → List ℕ → Node → Result World ℕ
add_in world above path node =
    if list_any (λ a. is_file (get world a)) above then Err UNDER_FILE
    else Ok (insert (with_dirs world above) path node)
