-- Which URL paths an alias or a redirect takes, and what it finds in them.
-- Apache manual, mod_alias: Alias, AliasMatch, Redirect, RedirectMatch.
use Rattle.std.specs.Prelude.{ℕ, ◌==◌, List, [], ◌∷◌, length, drop, nat_eq}
use Rattle.std.specs.Prelude.{Bool, ◌&&◌, ◌||◌, Option, Some, None, option_map, if◌then◌else◌}
use Rattle.std.specs.List.{starts_with}
use Rattle.hc_base.specs.Paths.{begins_with_slash, ends_with_slash}
use Rattle.hc_base.specs.Spans.{spanned}
use Rattle.hc_model.specs.declared.mapping.PathTest.{PathTest}
use Rattle.hc_model.specs.declared.mapping.PathTest.TheVariants.{Prefix, Search}
use Rattle.hc_ways.specs.Kept.{Held, first_match}

-- What an entry finds in a path that it takes: what each group of its pattern holds, and what follows
-- its prefix.
pub record Found : Type 0 where
  pub groups : ℕ → List ℕ
  pub rest : List ℕ

-- A path that ends in a slash takes what begins with it; another takes itself, and what begins with
-- it and a slash.
abbrev pub is_below : List ℕ → List ℕ → Bool
is_below from path =
    starts_with nat_eq path from
    && (ends_with_slash from || (length path == length from) || begins_with_slash (drop (length from) path))

abbrev pub no_groups : ℕ → List ℕ
no_groups number = []

abbrev pub behind : List ℕ → List ℕ → Found
behind from path = record { groups = no_groups; rest = drop (length from) path }

-- A group that holds nothing gives the empty text.
abbrev pub searched : List ℕ → Held → Found
searched path held = record { groups = λ number. spanned path (held number); rest = [] }

-- What a test finds in a path that it takes; a pattern takes each path that it is found in.
abbrev pub found_by : PathTest → List ℕ → Option Found
found_by (Prefix from) path = if is_below from path then Some (behind from path) else None
found_by (Search pattern) path = option_map (searched path) (first_match path pattern)

-- The first of these entries that takes the path, with what it finds.
abbrev pub or_later : {A : Type 0} → A → Option Found → Option (A × Found) → Option (A × Found)
or_later entry (Some found) later = Some (entry, found)
or_later entry None later = later

abbrev pub first_taking : {A : Type 0} → (A → PathTest) → List A → List ℕ → Option (A × Found)
first_taking from [] path = None
first_taking from (entry ∷ entries) path =
    or_later entry (found_by (from entry) path) (first_taking from entries path)
