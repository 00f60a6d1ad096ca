-- The words of sections: where each applies.
-- Apache manual, core: Directory, DirectoryMatch, Files, FilesMatch, Location, LocationMatch. That a final
-- slash of a Directory is dropped is our own choice.
use Rattle.std.specs.Prelude.{ℕ, true, false, List, [], ◌∷◌, Result, Ok, Err, codes, if◌then◌else◌}
use Rattle.std.specs.Str.{bytes_eq}
use Rattle.hc_base.specs.Paths.{without_final_slash}
use Rattle.hc_base.specs.declared.fault.AtByte.{AtByte}
use Rattle.hc_model.specs.declared.section.Reach.{Reach}
use Rattle.hc_model.specs.declared.section.Reach.TheVariants.{Dir, Files, Location, LocationGlob}
use Rattle.hc_pattern.specs.Globs.{glob_pattern, has_wildcard}
use Rattle.hc_pattern.specs.Pattern.{Pattern}
use Rattle.hc_pattern.specs.Reading.{parse_pattern}
use Rattle.hc_config.specs.Targets.{wrong}

-- A pattern that is read, as a reach.
abbrev pub reached_by : (Pattern → Reach) → Result Pattern AtByte → Result Reach AtByte
reached_by reach (Ok pattern) = Ok (reach pattern)
reached_by reach (Err broken) = Err broken

unfoldable pub searched : (Pattern → Reach) → List ℕ → Result Reach AtByte
searched reach word = reached_by reach (parse_pattern word false)

-- No `?`, `*` or class of it matches a slash.
unfoldable pub path_glob : (Pattern → Reach) → List ℕ → Result Reach AtByte
path_glob reach word = reached_by reach (glob_pattern word true)

unfoldable pub name_glob : List ℕ → Result Reach AtByte
name_glob word = reached_by Files (glob_pattern word false)

abbrev pub directory : List ℕ → Result Reach AtByte
directory word = path_glob Dir (without_final_slash word)

abbrev pub location : List ℕ → Result Reach AtByte
location word = if has_wildcard word then path_glob LocationGlob word else Ok (Location word)

-- Behind `~` stands a pattern.
abbrev pub behind_tilde : (Pattern → Reach) → List ℕ → List ℕ → Result Reach AtByte
behind_tilde reach sign word = if bytes_eq sign (codes "~") then searched reach word else Err wrong

-- One word that is not `~` alone.
abbrev pub unless_tilde : (List ℕ → Result Reach AtByte) → List ℕ → Result Reach AtByte
unless_tilde plain word = if bytes_eq word (codes "~") then Err wrong else plain word

-- One word, or `~` and a pattern.
abbrev pub plain_or_tilde : (List ℕ → Result Reach AtByte) → (Pattern → Reach) → List (List ℕ)
    → Result Reach AtByte
plain_or_tilde plain reach (word ∷ []) = unless_tilde plain word
plain_or_tilde plain reach (sign ∷ word ∷ []) = behind_tilde reach sign word
plain_or_tilde plain reach words = Err wrong

-- One pattern.
abbrev pub pattern_alone : (Pattern → Reach) → List (List ℕ) → Result Reach AtByte
pattern_alone reach (word ∷ []) = searched reach word
pattern_alone reach words = Err wrong
