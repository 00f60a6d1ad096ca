-- Which sections set something that is merged.
-- Apache manual, "Configuration Sections", "How the sections are merged".
use Rattle.std.specs.Prelude.{◌==◌, List, length, Bool, not, ◌||◌, is_some}
use Rattle.std.specs.List.{list_any}
use Rattle.hc_model.specs.declared.section.Body.{Body, Body-F, fold-Body}
use Rattle.hc_model.specs.declared.section.Section.{Section, Section-F, fold-Section}

abbrev pub has_some : {A : Type 0} → List A → Bool
has_some items = not (length items == 0)

-- An Options line, Require lines, a directive of mod_rewrite, or a Redirect.
abbrev pub sets : {A B : Type 0} → Body-F A B → Bool
sets body = has_some body.options || (is_some body.require || (body.rewrites || has_some body.redirects))

-- Here, or in a section inside.
abbrev pub level_merges : Body-F Bool Bool → Bool
level_merges body = sets body || list_any (λ is. is) body.inner

abbrev pub body_of : Section-F Bool Bool → Bool
body_of section = section.body

abbrev pub merges : Body → Bool
merges = fold-Body Bool Bool level_merges body_of

abbrev pub section_merges : Section → Bool
section_merges = fold-Section Bool Bool level_merges body_of
