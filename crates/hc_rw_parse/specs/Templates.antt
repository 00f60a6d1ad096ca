-- The signs that a test string, a substitution and the value of a variable may hold.
-- Apache manual, mod_rewrite, "Test String" and "Substitution".
use Rattle.std.specs.Prelude.{true}
use Rattle.hc_template.specs.declared.signs.Names.TheVariants.{Rewriting}
use Rattle.hc_template.specs.declared.signs.Signs.{Signs}

abbrev pub rewriting : Signs
rewriting = record { groups = true; conditions = true; names = Rewriting; escapes = true; lookups = true }
