-- Texts in the rules of a directory.
-- Apache manual, mod_rewrite: RewriteRule, "What is matched?"; RewriteBase. What path information does, and that a
-- document root is
-- taken off, is our own choice.
use Rattle.std.specs.Prelude.{ℕ, List, [], ◌∷◌, ◌++◌, length, drop, nat_eq, if◌then◌else◌, Option}
use Rattle.std.specs.Prelude.{Some, None, unwrap_or}
use Rattle.std.specs.List.{starts_with}
use Rattle.hc_base.specs.Bytes.{slash}
use Rattle.hc_base.specs.Paths.{ends_with_slash}
use Rattle.hc_rw_expand.specs.Contexts.{Engine}
use Rattle.hc_rw_expand.specs.declared.state.RwState.{RwState}

-- A directory and a slash: `/` alone for `/`.
abbrev pub with_slash : List ℕ → List ℕ
with_slash dir = if ends_with_slash dir then dir else dir ++ slash ∷ []

-- What follows a front, where the text begins with it.
abbrev pub behind_front : List ℕ → List ℕ → Option (List ℕ)
behind_front front text = if starts_with nat_eq text front then Some (drop (length front) text) else None

-- ---- what a pattern is looked for in

abbrev pub within : List ℕ → List ℕ → List ℕ
within dir text = unwrap_or (behind_front (with_slash dir) text) text

-- In a directory the text with the path information behind it, less the directory and a slash.
abbrev pub subject_in : Option Engine → RwState → List ℕ
subject_in None state = state.text
subject_in (Some engine) state = within engine.dir (state.text ++ state.info)

-- ---- the URL path of a file name

-- A leading document root before a slash is taken off.
abbrev pub without_root : Option (List ℕ) → List ℕ → List ℕ
without_root None text = text
without_root (Some root) text = if starts_with nat_eq text (root ++ slash ∷ []) then drop (length root) text else text

abbrev pub behind_base : List ℕ → Option (List ℕ) → List ℕ → List ℕ
behind_base base None text = text
behind_base base (Some rest) text = with_slash base ++ rest

-- RewriteBase in place of the directory and a slash.
abbrev pub in_base : List ℕ → List ℕ → List ℕ → List ℕ
in_base base dir text = behind_base base (behind_front (with_slash dir) text) text

abbrev pub path_by : Option (List ℕ) → Option (List ℕ) → List ℕ → List ℕ → List ℕ
path_by None root dir text = without_root root text
path_by (Some base) root dir text = in_base base dir text

-- By the document root; without RewriteBase this is taken off.
abbrev pub url_path : Option (List ℕ) → Engine → List ℕ → List ℕ
url_path root engine text = path_by engine.base root engine.dir text
