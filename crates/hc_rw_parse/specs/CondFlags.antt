-- The flags of a RewriteCond, as they are written.
-- Apache manual, mod_rewrite, RewriteCond.
use Rattle.std.specs.Prelude.{ℕ, List, [], ◌∷◌, Bool, true, false, if◌then◌else◌, codes, Result, Ok, Err}
use Rattle.std.specs.List.{list_any, slice_split}
use Rattle.std.specs.Str.{str_eq_ignore_ascii_case}
use Rattle.hc_base.specs.declared.fault.AtByte.{AtByte}
use Rattle.hc_rw_parse.specs.RuleFlags.{bad, inside, is_bracketed, is_comma}
use Rattle.hc_rw_parse.specs.declared.cond_flags.CondFlags.{CondFlags}

abbrev pub is_named : List (List ℕ) → List ℕ → Bool
is_named names text = list_any (λ name. str_eq_ignore_ascii_case name text) names

abbrev pub no_case : List (List ℕ)
no_case = codes "NC" ∷ codes "nocase" ∷ []

abbrev pub or_next : List (List ℕ)
or_next = codes "OR" ∷ codes "ornext" ∷ []

-- It has no effect here.
abbrev pub no_vary : List (List ℕ)
no_vary = codes "NV" ∷ codes "novary" ∷ []

abbrev pub with_name : CondFlags → List ℕ → Result CondFlags AtByte
with_name flags name =
    if is_named no_case name then Ok (record flags { nocase = true })
    else (if is_named or_next name then Ok (record flags { or_next = true })
    else (if is_named no_vary name then Ok flags else bad))

abbrev pub with_names : Result CondFlags AtByte → List (List ℕ) → Result CondFlags AtByte
with_names (Err broken) names = Err broken
with_names (Ok flags) [] = Ok flags
with_names (Ok flags) (name ∷ names) = with_names (with_name flags name) names

abbrev pub no_cond_flags : CondFlags
no_cond_flags = record { nocase = false; or_next = false }

abbrev pub cond_flags_in : List ℕ → Result CondFlags AtByte
cond_flags_in word = if is_bracketed word then with_names (Ok no_cond_flags) (slice_split is_comma (inside word))
    else bad
