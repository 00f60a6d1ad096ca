-- Sections that have no settings of their own.
-- Apache manual, "Configuration Sections".
use Rattle.std.specs.Prelude.{Bool, true, false, Option, Some}
use Rattle.hc_table.specs.declared.directive.Meaning.{Meaning}
use Rattle.hc_table.specs.declared.directive.Meaning.TheVariants.{Section}
use Rattle.hc_table.specs.declared.directive.SectionName.TheVariants as named

-- What stands in these stands, for rules, where they do.
abbrev pub is_transparent : Option Meaning → Bool
is_transparent (Some (Section named.IfDefine)) = true
is_transparent (Some (Section named.IfModule)) = true
is_transparent (Some (Section named.RequireAll)) = true
is_transparent (Some (Section named.RequireAny)) = true
is_transparent (Some (Section named.RequireNone)) = true
is_transparent meaning = false
