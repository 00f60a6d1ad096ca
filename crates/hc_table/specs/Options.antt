-- The words of Options and the classes of AllowOverride (manual: core).
use Rattle.std.specs.Prelude.{[], ◌∷◌, Bool, codes}
use Rattle.hc_table.specs.contracts.option_name.OptionNamePartialEq.TheImpl.{ghosts as options}
use Rattle.hc_table.specs.declared.directive.Class.{Class}
use Rattle.hc_table.specs.declared.directive.Class.TheVariants as class
use Rattle.hc_table.specs.declared.option_name.OptionName.{OptionName}
use Rattle.hc_table.specs.declared.option_name.OptionName.TheVariants as option
use Rattle.hc_table.specs.declared.option_name.OptionWord.{OptionWord}
use Rattle.hc_table.specs.declared.option_name.OptionWord.TheVariants.{All, Nothing, One}
use Rattle.hc_table.specs.Table.{Names}

unfoldable pub option_rows : Names OptionWord
option_rows =
    (codes "None", Nothing) ∷
    (codes "All", All) ∷
    (codes "Indexes", One option.Indexes) ∷
    (codes "Includes", One option.Includes) ∷
    (codes "IncludesNOEXEC", One option.IncludesNoExec) ∷
    (codes "FollowSymLinks", One option.FollowSymLinks) ∷
    (codes "SymLinksIfOwnerMatch", One option.SymLinksIfOwnerMatch) ∷
    (codes "ExecCGI", One option.ExecCgi) ∷
    (codes "MultiViews", One option.MultiViews) ∷ []

unfoldable pub class_rows : Names Class
class_rows =
    (codes "AuthConfig", class.AuthConfig) ∷
    (codes "FileInfo", class.FileInfo) ∷
    (codes "Indexes", class.Indexes) ∷
    (codes "Limit", class.Limit) ∷
    (codes "Options", class.Options) ∷ []

abbrev pub is_option : OptionName → OptionName → Bool
is_option option other = options.eq option other
