-- Which edit was the last to change what a look at a world shows. Our own choice.
use Rattle.std.specs.Prelude.{ℕ, unwrap_or, refl}
use Rattle.std.specs.Coded.{Coded, code_by, coded×, coded_list, coded_ℕ}
use Rattle.std.specs.FinMap.{FinMap, get}
use Rattle.std.specs.FinMap as map
use Rattle.std.specs.Ordering.{nat_cmp}
use Rattle.std.specs.Cmp.Lexicographic.{slice_cmp}
use Rattle.hc_model.specs.declared.read.Read.{Read}
use Rattle.hc_model.specs.declared.read.Read.TheVariants.{KindOf, NamesOf, TextOf}
use Rattle.hc_steps.specs.Step.{Path}

-- The numbers of the last edits that changed what stands at a path, the text that is there, and the names in
-- it; 0 where none did.
pub record Changes : Type 0 where
  pub kind : ℕ
  pub text : ℕ
  pub names : ℕ

abbrev pub changes_code : Coded Changes
changes_code =
    code_by (ℕ × (ℕ × ℕ)) (coded× coded_ℕ (coded× coded_ℕ coded_ℕ)) (λ c. (c.kind, (c.text, c.names)))
    (λ p. record { kind = p.0; text = p.1.0; names = p.1.1 }) (λ _. refl)

-- By their paths.
abbrev pub ChangeMap : Type 0
ChangeMap = FinMap (slice_cmp nat_cmp) Changes

abbrev pub change_map_code : Coded ChangeMap
change_map_code = map.code (coded_list coded_ℕ) changes_code

abbrev pub never : Changes
never = record { kind = 0; text = 0; names = 0 }

abbrev pub changes_at : ChangeMap → Path → Changes
changes_at changes path = unwrap_or (get changes path) never

-- The last edit that changed what a read shows.
abbrev pub last_change : ChangeMap → Read → ℕ
last_change changes (KindOf path) = (changes_at changes path).kind
last_change changes (TextOf path) = (changes_at changes path).text
last_change changes (NamesOf path) = (changes_at changes path).names
