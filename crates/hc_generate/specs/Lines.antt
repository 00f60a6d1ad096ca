-- The line of a step: compact JSON.
use Rattle.std.specs.Prelude.{ℕ, ◌==◌, List, [], ◌∷◌, ◌++◌, if◌then◌else◌, codes, decimal}
use Rattle.std.specs.List.{flat_map}
use Rattle.serde_json.specs.Data.{Data, string, object, no_members, member}
use Rattle.serde_json.specs.Written.{compact_text}
use Rattle.hc_base.specs.Bytes.{lf}
use Rattle.hc_session.specs.State.{main_file}
use Rattle.hc_generate.specs.declared.step.Leaf.{Leaf}
use Rattle.hc_generate.specs.declared.step.Leaf.TheVariants.{Listed, Rewritten}
use Rattle.hc_generate.specs.declared.step.Step.{Step}
use Rattle.hc_generate.specs.declared.step.Step.TheVariants.{Main, File, Override, Ask}

-- ---- texts

abbrev pub of_lines : List (List ℕ) → List ℕ
of_lines lines = flat_map (λ line. line ++ lf ∷ []) lines

abbrev pub main_text : List ℕ
main_text =
    of_lines (
    codes "DocumentRoot /srv" ∷
    codes "<Directory \"/srv\">" ∷
    codes "AllowOverride All" ∷
    codes "</Directory>" ∷ [])

-- What the `.htaccess` of a directory says.
abbrev pub override_text : ℕ → List ℕ
override_text text =
    if text == 0 then of_lines (codes "RewriteEngine On" ∷ codes "RewriteRule ^g(.*)$ f$1 [L]" ∷ [])
    else (if text == 1 then of_lines (codes "Require all granted" ∷ [])
    else of_lines (codes "Require ip 10" ∷ []))

-- ---- paths

abbrev pub file_path : ℕ → ℕ → List ℕ
file_path directory file = codes "/srv/d" ++ (decimal directory ++ (codes "/f" ++ (decimal file ++ codes ".html")))

abbrev pub override_path : ℕ → List ℕ
override_path directory = codes "/srv/d" ++ (decimal directory ++ codes "/.htaccess")

abbrev pub leaf_text : Leaf → List ℕ
leaf_text Listed = codes "f"
leaf_text Rewritten = codes "g"

abbrev pub target_of : ℕ → Leaf → ℕ → List ℕ
target_of directory leaf file =
    codes "/d" ++ (decimal directory ++ (codes "/" ++ (leaf_text leaf ++ (decimal file ++ codes ".html"))))

-- ---- lines

abbrev pub put_data : List ℕ → List ℕ → Data
put_data path text =
    object (
    member (codes "do") (string (codes "put")) (
    member (codes "path") (string path) (
    member (codes "text") (string text) no_members)))

abbrev pub list_data : List ℕ → Data
list_data path =
    object (
    member (codes "do") (string (codes "list")) (
    member (codes "kind") (string (codes "file")) (
    member (codes "path") (string path) no_members)))

abbrev pub ask_data : List ℕ → Data
ask_data target =
    object (
    member (codes "do") (string (codes "ask")) (
    member (codes "target") (string target) no_members))

abbrev pub step_data : Step → Data
step_data Main = put_data main_file main_text
step_data (File directory file) = list_data (file_path directory file)
step_data (Override directory text) = put_data (override_path directory) (override_text text)
step_data (Ask directory leaf file) = ask_data (target_of directory leaf file)

unfoldable pub line_of : Step → List ℕ
line_of step = compact_text (step_data step)
