-- The script that a seed makes. Our own choice.
use Rattle.std.specs.Prelude.{ℕ, zero, suc, ◌+◌, ◌==◌, List, [], ◌∷◌, map, if◌then◌else◌}
use Rattle.hc_generate.specs.Draws.{Drawing, draw, gives, ◌>>=◌}
use Rattle.hc_generate.specs.Lines.{line_of}
use Rattle.hc_generate.specs.declared.step.Leaf.{Leaf}
use Rattle.hc_generate.specs.declared.step.Leaf.TheVariants.{Listed, Rewritten}
use Rattle.hc_generate.specs.declared.step.Step.{Step}
use Rattle.hc_generate.specs.declared.step.Step.TheVariants.{Main, File, Override, Ask}
use Rattle.hc_generate.specs.declared.draws.TheConstants.{DIRECTORIES, FILES, KINDS, LEAVES, TEXTS, TURNS}

-- ---- the steps

-- A file in a directory that is drawn.
abbrev pub file_step : ℕ → Drawing Step
file_step file = draw DIRECTORIES >>= λ directory. gives (File directory file)

-- One of three texts for this directory.
abbrev pub override_step : ℕ → Drawing Step
override_step directory = draw TEXTS >>= λ chosen. gives (Override directory chosen)

-- One of ten turns gives a directory another text, and the others ask.
abbrev pub edit_step : Drawing Step
edit_step = draw DIRECTORIES >>= override_step

abbrev pub leaf_of : ℕ → Leaf
leaf_of drawn = if drawn == 0 then Listed else Rewritten

abbrev pub ask_step : Drawing Step
ask_step =
    draw DIRECTORIES >>= λ directory.
    draw LEAVES >>= λ drawn.
    draw FILES >>= λ file.
    gives (Ask directory (leaf_of drawn) file)

abbrev pub turn : Drawing Step
turn = draw KINDS >>= λ kind. if kind == 0 then edit_step else ask_step

-- ---- the script

-- The steps of so many turns in order, of which the first has this number, and what comes behind them.
unfoldable pub in_order : (ℕ → Drawing Step) → ℕ → ℕ → (ℕ → List Step) → ℕ → List Step
in_order step number zero behind x = behind x
in_order step number (suc count) behind x =
    (step number x).0 ∷ in_order step (number + 1) count behind (step number x).1

abbrev pub turns_behind : ℕ → List Step
turns_behind x = in_order (λ number. turn) 0 TURNS (λ last. []) x

abbrev pub overrides_behind : ℕ → List Step
overrides_behind x = in_order override_step 0 DIRECTORIES turns_behind x

abbrev pub files_behind : ℕ → List Step
files_behind x = in_order file_step 0 FILES overrides_behind x

-- The main file, then files, a text for each directory, and turns.
abbrev pub script_of : ℕ → List (List ℕ)
script_of seed = map line_of (Main ∷ files_behind seed)
