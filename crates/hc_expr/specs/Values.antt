-- Whether an expression holds.
-- Apache manual, "Expressions in Apache HTTP Server".
use Rattle.std.specs.Prelude.{ℕ, List, Bool, true, false, not, ◌&&◌, ◌||◌, is_some, Option, Some, None}
use Rattle.std.specs.Str.{bytes_eq}
use Rattle.hc_addr.specs.Addresses.{addr_of}
use Rattle.hc_addr.specs.Networks.{holds_in}
use Rattle.hc_addr.specs.declared.addr.Addr.{Addr}
use Rattle.hc_addr.specs.declared.net.Net.{Net}
use Rattle.hc_model.specs.declared.expression.Expr.{Expr, fold-Expr}
use Rattle.hc_model.specs.declared.expression.Expr.TheOpen.{Expr-F}
use Rattle.hc_model.specs.declared.request.View.{View}
use Rattle.hc_model.specs.declared.template.Piece.{Piece}
use Rattle.hc_template.specs.Filled.{filled}
use Rattle.hc_template.specs.ViewFilling.{filling_of}
use Rattle.hc_ways.specs.Kept.{first_match}

abbrev pub text_of : View → List Piece → List ℕ
text_of view pieces = filled (filling_of view) pieces

-- What is no address is in no network.
abbrev pub is_in : Net → Option Addr → Bool
is_in net None = false
is_in net (Some addr) = holds_in net addr

abbrev pub level_holds : View → Expr-F Bool → Bool
level_holds view Expr-F.Yes = true
level_holds view Expr-F.No = false
level_holds view (Expr-F.Not value) = not value
level_holds view (Expr-F.And first second) = first && second
level_holds view (Expr-F.Or first second) = first || second
level_holds view (Expr-F.Same left right) = bytes_eq (text_of view left) (text_of view right)
level_holds view (Expr-F.Search left pattern) = is_some (first_match (text_of view left) pattern)
level_holds view (Expr-F.IpMatch left net) = is_in net (addr_of (text_of view left))

abbrev pub holds : View → Expr → Bool
holds view = fold-Expr Bool (level_holds view)
