-- URLs of the server's own, and their paths.
use Rattle.std.specs.Prelude.{ℕ, ◌&&◌, not, List, [], ◌∷◌, length, drop, true}
use Rattle.std.specs.List.{list_any}
use Rattle.hc_base.specs.Paths.{is_slash}
use Rattle.hc_dfa.specs.Automata.{Automaton, accepts}
use Rattle.hc_dfa.specs.Texts.{TextSet}
use Rattle.hc_model.specs.declared.request.Caller.{Caller}
use Rattle.hc_rw_eval.specs.Locations.{is_own, own_front}
use Rattle.hc_target.specs.Urls.{begins_without_case}

-- Without case, and a text of the automaton behind it.
abbrev pub begins_before : List ℕ → Automaton → TextSet
begins_before front rest text = begins_without_case front text && accepts rest (drop (length front) text)

-- The scheme of the request, and an authority of the server, which holds no slash.
abbrev pub is_root : Caller → TextSet
is_root caller text =
    begins_without_case (own_front caller.request.scheme) text
    && (is_own caller (drop (length (own_front caller.request.scheme)) text)
    && not (list_any is_slash (drop (length (own_front caller.request.scheme)) text)))

-- What may stand behind it: a path, or nothing.
abbrev pub is_behind : TextSet
is_behind [] = true
is_behind (b ∷ bs) = is_slash b
