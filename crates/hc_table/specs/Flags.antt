-- The flags of a RewriteRule, by their short and long names (manual: RewriteRule Flags).
use Rattle.std.specs.Prelude.{[], ◌∷◌, codes}
use Rattle.hc_table.specs.declared.flag.FlagName.{FlagName}
use Rattle.hc_table.specs.declared.flag.FlagName.TheVariants as flag
use Rattle.hc_table.specs.Table.{Names, all_rows, rows_of}

unfoldable pub flag_rows : Names FlagName
flag_rows =
    all_rows (
    rows_of flag.Last (codes "L last") ∷
    rows_of flag.End (codes "END") ∷
    rows_of flag.Next (codes "N next") ∷
    rows_of flag.Chain (codes "C chain") ∷
    rows_of flag.Skip (codes "S skip") ∷
    rows_of flag.Forbidden (codes "F forbidden") ∷
    rows_of flag.Gone (codes "G gone") ∷
    rows_of flag.Redirect (codes "R redirect") ∷
    rows_of flag.AppendQuery (codes "QSA qsappend") ∷
    rows_of flag.DiscardQuery (codes "QSD qsdiscard") ∷
    rows_of flag.NoCase (codes "NC nocase") ∷
    rows_of flag.NoEscape (codes "NE noescape") ∷
    rows_of flag.PassThrough (codes "PT passthrough") ∷
    rows_of flag.DiscardPath (codes "DPI discardpath") ∷
    rows_of flag.Environment (codes "E env") ∷
    rows_of flag.Type (codes "T type") ∷
    rows_of flag.Handler (codes "H handler") ∷
    rows_of flag.Cookie (codes "CO cookie") ∷
    rows_of flag.NoSubrequest (codes "NS nosubreq") ∷
    rows_of flag.Unsupported (codes "P proxy B BNP BCTLS BNE QSL UnsafeAllow3F UnsafePrefixStat") ∷ [])
