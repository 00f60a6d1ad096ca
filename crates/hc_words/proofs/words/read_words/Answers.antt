use Rattle.std.proofs.Common.{rules, sym, ap, ◌≡◌, ◌∙◌, ℕ, true, List, [], None, cond, codes, refl}
use Rattle.clap.proofs.WalkLemmas.{first_value-rows}
use Rattle.clap.specs.Faults.{fault_of, is_simple_and_free}
use Rattle.clap.specs.Kinds.{Kinds}
use Rattle.clap.specs.Simple.{App, HasMatchesOf, is_simple, matches_of}
use Rattle.clap.specs.Walk.{Row, first_of, is_empty, rows_of}
use Rattle.clap.specs.Words.{first_value, found_of}
use Rattle.clap.specs.declared.parser.matches.ArgMatches.{ArgMatches}
use Rattle.clap.specs.declared.parser.matches.Found.{Found}
use Rattle.hc_words.specs.Words.{command, words_from, words_of}
use Rattle.hc_words.proofs.words.read_words.Goals as goal

-- Where there is no fault, the values that are found are those of the matches.
same_values : (faults : Kinds) (found : Found) (rows : List Row) → faults ≡ [] → rows_of found ≡ rows
    → cond (is_empty faults) (words_from (first_of (codes "cells") rows) (first_of (codes "generate") rows)) None
    ≡ words_from (first_value found (codes "cells")) (first_value found (codes "generate"))
same_values faults found rows none same =
    rw (none, ← same, first_value-rows found (codes "cells"), first_value-rows found (codes "generate")) refl

-- What a parse by the command finds is what its words ask for.
found_words : (app : App) (words : List (List ℕ)) (m : ArgMatches) → app ≡ command
    → (is_simple_and_free app ≡ true → fault_of app words ≡ []) → HasMatchesOf app words m
    → words_of words ≡ words_from (first_value (found_of m) (codes "cells"))
    (first_value (found_of m) (codes "generate"))
found_words app words m is none matches =
    same_values _ (found_of m) _ (ap (λ a. fault_of a words) (sym is) ∙ none (ap is_simple_and_free is))
    ((matches (ap is_simple is)).0 ∙ ap (λ a. matches_of a words) is)

pub returns-in-Ok-try_get_matches_from : goal.returns-in-Ok-try_get_matches_from
returns-in-Ok-try_get_matches_from c =
    let parse = c.in-Ok-try_get_matches_from.ensures in
    let wanted = found_words _ _ _ c.in-Ok.ensures parse.kinds parse.matches ∙ sym c.words_in.ensures in
    search rules
