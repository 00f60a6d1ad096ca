-- The query of a text that a substitution gives.
-- Apache manual, mod_rewrite, "Modifying the Query String"; "RewriteRule Flags": QSA, QSD. That QSD wins over QSA is
-- our
-- own choice.
use Rattle.std.specs.Prelude.{ℕ, ◌==◌, List, [], ◌∷◌, ◌++◌, length, Bool, true, false}
use Rattle.std.specs.Prelude.{if◌then◌else◌}
use Rattle.std.specs.List.{after_first, before_first, list_any}
use Rattle.hc_base.specs.Bytes.{ampersand, is_question}
use Rattle.hc_rw_expand.specs.declared.query.Split.{Split}

-- The query from before, where QSD does not drop it.
abbrev pub kept : Bool → List ℕ → List ℕ
kept true old = []
kept false old = old

-- The one behind the other, with `&` between them where neither is empty.
abbrev pub appended : List ℕ → List ℕ → List ℕ
appended new old =
    if length new == 0 then old else (if length old == 0 then new else new ++ ampersand ∷ old)

abbrev pub if_appended : Bool → List ℕ → List ℕ → List ℕ
if_appended true new old = appended new old
if_appended false new old = new

-- A text without `?` leaves the query.
abbrev pub query_of : List ℕ → List ℕ → Bool → Bool → List ℕ
query_of text old append discard =
    if list_any is_question text then if_appended append (after_first is_question text) (kept discard old)
    else kept discard old

abbrev pub split : List ℕ → List ℕ → Bool → Bool → Split
split text old append discard =
    record { text = before_first is_question text; query = query_of text old append discard }
