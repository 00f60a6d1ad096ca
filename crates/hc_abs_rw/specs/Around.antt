-- What rules look at in a world, and what is known of it.
use Rattle.std.specs.Prelude.{◌≡◌, ◌<◌, ℕ, List, All, Option, Some}
use Rattle.std.specs.FinMap.{get}
use Rattle.hc_abs_rw.specs.Conditions.{stands}
use Rattle.hc_dfa.specs.Automata.{Automaton}
use Rattle.hc_dfa.specs.Built.{Accepts}
use Rattle.hc_dfa.specs.Texts.{IsText}
use Rattle.hc_map.specs.Maps.{look_up}
use Rattle.hc_model.specs.Node.{kind_of, text_of}
use Rattle.hc_model.specs.World.{World}
use Rattle.hc_model.specs.declared.mapping.Map.{Map}
use Rattle.hc_model.specs.declared.walk.Kind.{Kind}
use Rattle.hc_rw_eval.specs.Conditions.{dir_named, is_dir, is_file, path_named}

abbrev pub kind_in : World → List ℕ → Kind
kind_in world path = kind_of (get world path)

abbrev pub texts_in : World → List ℕ → Option (List ℕ)
texts_in world path = text_of (get world path)

-- What maps give for keys of bytes is of bytes.
abbrev pub GivesBytes : List Map → World → Type 0
GivesBytes maps world = (name key value : List ℕ) → IsText key
    → look_up maps (texts_in world) name key ≡ Some value → All (λ byte. byte < 256) value

-- The automaton accepts the texts that name a file, or a directory.
abbrev pub NamesFiles : World → Automaton → Type 0
NamesFiles world files = Accepts files (λ text. stands (kind_in world) is_file (path_named text))

abbrev pub NamesDirs : World → Automaton → Type 0
NamesDirs world dirs = Accepts dirs (λ text. stands (kind_in world) is_dir (dir_named text))
