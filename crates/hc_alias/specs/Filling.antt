-- What the parts of a target stand for.
-- Apache manual, mod_alias: AliasMatch, RedirectMatch.
use Rattle.std.specs.Prelude.{ℕ, List, []}
use Rattle.hc_template.specs.Filled.{Filling}

-- No target of an alias or a redirect has other parts than groups.
abbrev pub filling_with : (ℕ → List ℕ) → Filling
filling_with groups = record { group = groups; condition = λ number. []; variable = λ var. [] }
