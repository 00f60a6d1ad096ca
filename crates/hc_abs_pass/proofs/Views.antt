-- The plan of an expression goes on as the expression holds.
use Rattle.hc_abs_pass.proofs.Common.{◌≡◌, ◌∙◌, ℕ, List, [], ◌∷◌, ◌++◌, Bool, true, false}
use Rattle.hc_abs_pass.proofs.Common.{not, ◌&&◌, ◌||◌, Option, Some, None, refl, sym, ap, ap₂, subst}
use Rattle.hc_abs_pass.proofs.Common.{option_map, State, Item, item_text, text_of, Plan, plan_run}
use Rattle.std.specs.Prelude.{codes, decimal}
use Rattle.std.specs.Str.{bytes_eq}
use Rattle.hc_addr.specs.Printed.{printed}
use Rattle.hc_dfa.specs.Texts.{TextSet}
use Rattle.hc_addr.specs.Addresses.{addr_of}
use Rattle.hc_expr.specs.Values.{holds, is_in, level_holds}
use Rattle.hc_expr.specs.Values.{text_of as text_seen}
use Rattle.hc_model.specs.declared.expression.Expr.{Expr, fold-roll-Expr, ind-Expr, map-Expr, roll-Expr}
use Rattle.hc_model.specs.declared.expression.Expr.TheOpen.{Expr-F}
use Rattle.hc_model.specs.declared.request.View.{View}
use Rattle.hc_model.specs.declared.template.Piece.{Piece}
use Rattle.hc_model.specs.declared.template.Piece.TheVariants as piece
use Rattle.hc_model.specs.declared.template.Var.{Var}
use Rattle.hc_model.specs.declared.template.Var.TheVariants as var
use Rattle.hc_plan.specs.Branches.{finds}
use Rattle.hc_plan.specs.Plan.{client, held, literal, slot_behind}
use Rattle.hc_plan.specs.Running.{compares}
use Rattle.hc_abs_pass.specs.Sections.{bare}
use Rattle.hc_rw_eval.specs.Conditions.{counted}
use Rattle.hc_template.specs.Filled.{filled_piece}
use Rattle.hc_table.specs.declared.variable.Variable.{Variable}
use Rattle.hc_table.specs.declared.variable.Variable.TheVariants as variable
use Rattle.hc_template.specs.Variables.{on_off, scheme_name, seen_by, value_of, variable_value}
use Rattle.hc_template.specs.ViewFilling.{filling_of}
use Rattle.hc_abs_pass.specs.Views.{Scene, Sees, Ways, compared, is_same, left_first, level_ways}
use Rattle.hc_abs_pass.specs.Views.{named_item}
use Rattle.hc_abs_pass.specs.Views.{piece_item, tested, view_item, view_items, ways_of}

-- ---- texts

module _ (scene : Scene) (view : View) (s : State) (sees : Sees scene view s) where
  named_is : (named : Variable) → item_text s (named_item scene named) ≡ value_of (seen_by view) named
  named_is variable.RequestUri = sees.path
  named_is variable.RequestFilename = sees.name
  named_is variable.QueryString = sees.query
  named_is variable.RequestMethod = sees.method
  named_is variable.RequestScheme = ap scheme_name sees.scheme
  named_is variable.Https = ap on_off sees.scheme
  named_is variable.HttpHost = sees.host
  named_is variable.HttpUserAgent = sees.headers (codes "User-Agent")
  named_is variable.HttpReferer = sees.headers (codes "Referer")
  named_is variable.RemoteAddr = ap printed sees.client
  named_is variable.ServerName = sees.server
  named_is variable.ServerPort = ap decimal sees.port
  named_is other = refl

  variable_is : (var : Var) → item_text s (view_item scene var) ≡ variable_value view var
  variable_is (var.Header name) = sees.headers name
  variable_is (var.Env name) = refl
  variable_is (var.Named named) = named_is named

  piece_is : (piece : Piece) → item_text s (piece_item scene piece) ≡ filled_piece (filling_of view) piece
  piece_is (piece.Bytes bytes) = refl
  piece_is (piece.Group number) = refl
  piece_is (piece.CondGroup number) = refl
  piece_is (piece.Var var) = variable_is var
  piece_is (piece.Lookup' name key keys fallback fallbacks) = refl

  pub pieces_are : (pieces : List Piece) → text_of s (view_items scene pieces) ≡ text_seen view pieces
  pieces_are [] = refl
  pieces_are (piece ∷ pieces) = ap₂ (λ front rest. front ++ rest) (piece_is piece) (pieces_are pieces)

query_bare : (item : Item) (s : State) → item_text (bare s) item ≡ item_text s item
query_bare (literal own) s = refl
query_bare (slot_behind slot count) s = refl
query_bare (held key at) s = refl
query_bare client s = refl

-- ---- tests

pub seen_bare : (scene : Scene) (view : View) (s : State) → Sees scene view s → Sees scene view (bare s)
seen_bare scene view s sees = record {
  path = sees.path;
  name = sees.name;
  query = query_bare scene.query s ∙ sees.query;
  method = sees.method;
  headers = sees.headers;
  client = sees.client;
  scheme = sees.scheme;
  host = sees.host;
  server = sees.server;
  port = sees.port;
}

module _ (A : Type 0) (scene : Scene) (view : View) where
  -- From each state that sees the same it goes on with no text in hand.
  abbrev Goes : Ways A → Bool → Type 0
  Goes ways value = (negated : Bool) (plan : Bool → Plan A) (s : State) → Sees scene view s
      → plan_run (ways negated plan) s ≡ plan_run (plan (counted negated value)) (bare s)

  tested_goes : (pieces : List Piece) (set : TextSet) → Goes (tested scene pieces set) (set (text_seen view pieces))
  unfolding plan_run
  tested_goes pieces set negated plan s sees =
      ap (λ text. plan_run (plan (counted negated (set text))) (bare s)) (pieces_are scene view s sees pieces)

  compares_so : (negated : Bool) (text also : List ℕ) → compares (not negated) text also ≡ counted negated (bytes_eq text also)
  compares_so true text also = refl
  compares_so false text also = refl

  compared_goes : (left right : List Piece)
      → Goes (compared scene left right) (bytes_eq (text_seen view left) (text_seen view right))
  unfolding plan_run
  compared_goes left right negated plan s sees =
      ap₂ (λ text also. plan_run (plan (compares (not negated) text also)) (bare s))
      (pieces_are scene view s sees left) (pieces_are scene view s sees right)
      ∙ ap (λ is. plan_run (plan is) (bare s)) (compares_so negated (text_seen view left) (text_seen view right))

  -- ---- expressions

  -- The left part decides, or what it leaves to the right part.
  abbrev joined : Bool → Bool → Bool → Bool
  joined true one other = one || other
  joined false one other = one && other

  left_goes : (decides : Bool) (left right : Ways A) (one other : Bool) → Goes left one → Goes right other
      → Goes (left_first decides left right) (joined decides one other)
  left_goes decides left right one other is_left is_right negated plan s sees =
      is_left negated _ s sees ∙ by decides negated one
    where
      by : (decides negated one : Bool)
          → plan_run (elim (is_same (counted negated decides) (counted negated one)) [
            | true ↦ plan (counted negated one)
            | false ↦ right negated plan
          ]) (bare s) ≡ plan_run (plan (counted negated (joined decides one other))) (bare s)
      by true true true = refl
      by true false true = refl
      by false true false = refl
      by false false false = refl
      by true true false = is_right true plan (bare s) (seen_bare scene view s sees)
      by true false false = is_right false plan (bare s) (seen_bare scene view s sees)
      by false true true = is_right true plan (bare s) (seen_bare scene view s sees)
      by false false true = is_right false plan (bare s) (seen_bare scene view s sees)

  not_counted : (negated is : Bool) → counted (not negated) is ≡ counted negated (not is)
  not_counted true true = refl
  not_counted true false = refl
  not_counted false true = refl
  not_counted false false = refl

  abbrev GoesAs : Expr → Type 0
  GoesAs expr = Goes (ways_of scene expr) (holds view expr)

  abbrev Member : Type 0
  Member = (expr : Expr) × GoesAs expr

  abbrev read_expr : Member → Expr
  read_expr member = member.0

  led : (level : Expr-F Expr) (ways : Ways A) (value : Bool) → ways_of scene (roll-Expr level) ≡ ways
      → holds view (roll-Expr level) ≡ value → Goes ways value → GoesAs (roll-Expr level)
  led level ways value is_ways is_value goes =
      subst (λ ways. Goes ways (holds view (roll-Expr level))) (sym is_ways)
      (subst (Goes ways) (sym is_value) goes)

  by_level : (level : Expr-F Member) → GoesAs (roll-Expr (map-Expr Member Expr read_expr level))
  unfolding plan_run
  by_level Expr-F.Yes = led Expr-F.Yes _ _ (fold-roll-Expr (Ways A) (level_ways scene) Expr-F.Yes)
      (fold-roll-Expr Bool (level_holds view) Expr-F.Yes) (λ negated plan s sees. refl)
  by_level Expr-F.No = led Expr-F.No _ _ (fold-roll-Expr (Ways A) (level_ways scene) Expr-F.No)
      (fold-roll-Expr Bool (level_holds view) Expr-F.No) (λ negated plan s sees. refl)
  by_level (Expr-F.Not inner) =
      let level = Expr-F.Not inner.0 in
      led level _ _ (fold-roll-Expr (Ways A) (level_ways scene) level) (fold-roll-Expr Bool (level_holds view) level)
      (λ negated plan s sees. inner.1 (not negated) plan s sees
      ∙ ap (λ is. plan_run (plan is) (bare s)) (not_counted negated (holds view inner.0)))
  by_level (Expr-F.And left right) =
      let level = Expr-F.And left.0 right.0 in
      led level _ _ (fold-roll-Expr (Ways A) (level_ways scene) level) (fold-roll-Expr Bool (level_holds view) level)
      (left_goes false (ways_of scene left.0) (ways_of scene right.0) (holds view left.0) (holds view right.0)
      left.1 right.1)
  by_level (Expr-F.Or left right) =
      let level = Expr-F.Or left.0 right.0 in
      led level _ _ (fold-roll-Expr (Ways A) (level_ways scene) level) (fold-roll-Expr Bool (level_holds view) level)
      (left_goes true (ways_of scene left.0) (ways_of scene right.0) (holds view left.0) (holds view right.0)
      left.1 right.1)
  by_level (Expr-F.Same left right) =
      let level = Expr-F.Same left right in
      led level _ _ (fold-roll-Expr (Ways A) (level_ways scene) level) (fold-roll-Expr Bool (level_holds view) level)
      (compared_goes left right)
  by_level (Expr-F.Search left pattern) =
      let level = Expr-F.Search left pattern in
      led level _ _ (fold-roll-Expr (Ways A) (level_ways scene) level) (fold-roll-Expr Bool (level_holds view) level)
      (tested_goes left (finds pattern))
  by_level (Expr-F.IpMatch left net) =
      let level = Expr-F.IpMatch left net in
      led level _ _ (fold-roll-Expr (Ways A) (level_ways scene) level) (fold-roll-Expr Bool (level_holds view) level)
      (tested_goes left (λ x. is_in net (addr_of x)))

  pub expr_goes : (expr : Expr) → GoesAs expr
  expr_goes = ind-Expr GoesAs (λ level members is. subst (λ level. GoesAs (roll-Expr level)) is (by_level members))
