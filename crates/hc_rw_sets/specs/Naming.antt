-- The texts that name paths, and the graph that reads them: a run of slashes counts as one.
use Rattle.std.specs.Prelude.{◌≡◌, ℕ, ◌+◌, ◌==◌, ◌&&◌, nat_lt, nat_le, List, [], ◌∷◌}
use Rattle.std.specs.Prelude.{◌++◌, length, Bool, true, false, if◌then◌else◌, Option, None, Some}
use Rattle.hc_base.specs.Bytes.{slash}
use Rattle.hc_base.specs.Paths.{is_slash}
use Rattle.hc_dfa.specs.Graphs.{GraphOf}
use Rattle.hc_dfa.specs.Lists.{has_byte, text_at}
use Rattle.hc_dfa.specs.Singles.{is_among}
use Rattle.hc_dfa.specs.Texts.{TextSet}
use Rattle.hc_dfa.specs.declared.graphs.Choice.{Choice}
use Rattle.hc_dfa.specs.declared.graphs.Choice.TheVariants.{Byte, One, Other}
use Rattle.hc_dfa.specs.declared.graphs.Move.{Move}
use Rattle.hc_model.specs.World.{is_path}
use Rattle.hc_rw_sets.specs.declared.naming.Spot.{Spot}

-- The path that a text names is in a set.
abbrev pub names : TextSet → Option (List ℕ) → Bool
names paths None = false
names paths (Some path) = paths path

-- Each is a path of a world.
abbrev pub ArePaths : List (List ℕ) → Type 0
ArePaths paths = (path : List ℕ) → is_among paths path ≡ true → is_path path ≡ true

-- Each path, and behind it the same with a slash.
abbrev pub either_way : List (List ℕ) → List (List ℕ)
either_way [] = []
either_way (path ∷ paths) = path ∷ (path ++ slash ∷ []) ∷ either_way paths

-- What is left of a text, behind a slash or not, with each run of slashes as one.
abbrev pub merged_behind : Bool → List ℕ → List ℕ
merged_behind behind [] = []
merged_behind behind (byte ∷ text) = if behind && is_slash byte then merged_behind behind text
    else byte ∷ merged_behind (is_slash byte) text

-- A slash behind a slash is read on the spot. Else the byte at the place leads on in its text, and from the begin of a
-- text another way leads to the next.
abbrev pub merging_moves : List (List ℕ) → Spot → Choice → Option (Move Spot)
merging_moves texts spot (Byte byte) = if spot.behind_slash && is_slash byte
    then Some (record { byte = Some byte; to = spot })
    else (if has_byte texts (spot.text, spot.place) byte then Some (record {
      byte = Some byte;
      to = record { text = spot.text; place = spot.place + 1; behind_slash = is_slash byte };
    }) else None)
merging_moves texts spot One = if (spot.place == 0) && nat_lt spot.text (length texts)
    then Some (record { byte = None; to = record spot { text = spot.text + 1; place = 0 } }) else None
merging_moves texts spot Other = None

abbrev pub merging_graph : List (List ℕ) → GraphOf Spot
merging_graph texts = record {
  moves = merging_moves texts;
  is_final = λ spot. nat_lt spot.text (length texts) && nat_le (length (text_at texts spot.text)) spot.place;
}
