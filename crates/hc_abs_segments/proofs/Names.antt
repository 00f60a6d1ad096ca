-- The pass that a file name belongs to is the one that rules were run for, and the name begins with a slash.
use Rattle.hc_abs_segments.proofs.Common.{◌≡◌, ℕ, List, [], ◌∷◌, Bool, true, false, if◌then◌else◌}
use Rattle.hc_abs_segments.proofs.Common.{Option, Some, None, refl, leaves, ends, ◌>>=◌}
use Rattle.std.specs.List.{AllByRecursion}
use Rattle.std.specs.Option.{option_map}
use Rattle.hc_alias.specs.Filling.{filling_with}
use Rattle.hc_alias.specs.Mapping.{away, map_url, maps_of, named_by, or_named, redirects_of, root_of, under_root}
use Rattle.hc_alias.specs.Mapping.{unless_away}
use Rattle.hc_alias.specs.Tests.{Found, first_taking, found_by, or_later}
use Rattle.hc_alias.specs.declared.mapping.Away.{Away}
use Rattle.hc_alias.specs.declared.mapping.Mapped.{Mapped}
use Rattle.hc_alias.specs.declared.mapping.Mapped.TheVariants as mapped
use Rattle.hc_base.specs.Paths.{begins_with_slash, has_dots, merge_slashes}
use Rattle.hc_model.specs.declared.mapping.Alias.{Alias}
use Rattle.hc_model.specs.declared.outcome.Outcome.TheVariants.{Outside, Status}
use Rattle.hc_model.specs.declared.outcome.Reason.TheVariants.{DotSegment}
use Rattle.hc_rw_eval.specs.declared.run.Finished.{Finished}
use Rattle.hc_serve.specs.DirectoryRules.{root_at}
unfoldable use Rattle.hc_serve.specs.Passing.{absolute_left, exists, finished, mapped_at, name_left, name_of, named}
unfoldable use Rattle.hc_serve.specs.Passing.{path_left, path_without_dots, text_left}
use Rattle.hc_serve.specs.ServerRules.{first_component, pass_with}
use Rattle.hc_serve.specs.Site.{Site}
use Rattle.hc_serve.specs.declared.stage.Named.{Named}
use Rattle.hc_serve.specs.declared.stage.Pass.{Pass}
use Rattle.hc_serve.specs.declared.stage.Placed.{Placed}
use Rattle.hc_serve.specs.declared.stage.Placed.TheVariants as placed
use Rattle.hc_template.specs.Filled.{filled}
use Rattle.hc_vhost.specs.Servers.{servers_of}
use Rattle.hc_absolute.specs.Absolute.{IsAbsolute}
use Rattle.hc_abs_segments.proofs.Merged.{begins_more}
use Rattle.hc_abs_segments.proofs.Once.{Any, AreOnce, Gives, gives_any, gives_either, gives_then}

-- What becomes of a pass.
pub record SamePass (pass own : Pass) : Type 0 where
  pub number : own.number ≡ pass.number
  pub first : own.first_query ≡ pass.first_query
  pub once : AreOnce own.vars

pub record IsNamed (pass : Pass) (named : Named) : Type 0 where
  pub same : SamePass pass named.pass
  pub begins : begins_with_slash named.name ≡ true

module _ (site : Site) (pass : Pass) (rooted : (own : List ℕ) → root_at site ≡ Some own → begins_with_slash own ≡ true)
    (absolute : AllByRecursion IsAbsolute (maps_of (servers_of site.config site.host))) where
  abbrev PlacedSo : Placed → Type 0
  PlacedSo (placed.Unnamed own) = SamePass pass own
  PlacedSo (placed.Named own) = IsNamed pass own

  abbrev MappedSo : Mapped → Type 0
  MappedSo (mapped.Name name from) = begins_with_slash name ≡ true
  MappedSo (mapped.Away away) = Unit {0}
  MappedSo mapped.NoRoot = Unit {0}

  root_so : (own : Option (List ℕ)) → ((root : List ℕ) → own ≡ Some root → begins_with_slash root ≡ true)
      → (text : List ℕ) → MappedSo (under_root own text)
  root_so None each text = tt
  root_so (Some root) each text = begins_more root text (each root refl)

  abbrev TakenSo : Option (Alias × Found) → Type 0
  TakenSo None = Unit {0}
  TakenSo (Some taken) = IsAbsolute taken.0

  taken_so : (aliases : List Alias) → AllByRecursion IsAbsolute aliases → (path : List ℕ)
      → TakenSo (first_taking (λ alias. alias.from) aliases path)
  taken_so [] all path = tt
  taken_so (alias ∷ aliases) all path = by (found_by alias.from path) (taken_so aliases all.1 path)
    where
      by : (own : Option Found) → TakenSo (first_taking (λ alias. alias.from) aliases path)
          → TakenSo (or_later alias own (first_taking (λ alias. alias.from) aliases path))
      by (Some found) later = all.0
      by None later = later

  alias_so : (own : Option (Alias × Found)) (other : Mapped) → TakenSo own → MappedSo other
      → MappedSo (or_named (option_map named_by own) other)
  alias_so None other is later = later
  alias_so (Some taken) other is later =
      begins_more (filled (filling_with taken.1.groups) taken.0.to) taken.1.rest (is taken.1.groups)

  away_so : (own : Option Away) (other : Mapped) → MappedSo other → MappedSo (unless_away own other)
  away_so None other is = is
  away_so (Some away) other is = tt

  url_so : (path query : List ℕ) → MappedSo (map_url site.config site.host path query site.caller)
  url_so path query =
      let servers = servers_of site.config site.host in
      away_so (away (redirects_of servers) path query site.caller) _
      (alias_so (first_taking (λ alias. alias.from) (maps_of servers) path) (under_root (root_of servers) path)
      (taken_so (maps_of servers) absolute path) (root_so (root_of servers) rooted path))

  named_gives : (own : Pass) → SamePass pass own → (to : Mapped) → MappedSo to → Gives (IsNamed pass) (named own to)
  unfolding named
  named_gives own same (mapped.Name name from) is = record { same = same; begins = is }
  named_gives own same (mapped.Away away) is = tt
  named_gives own same mapped.NoRoot is = tt

  module _ (run : Finished) (once : AreOnce run.left.state.vars) where
    abbrev own_pass : Pass
    own_pass = pass_with pass run.left.state

    abbrev text : List ℕ
    text = run.left.state.text

    same_pass : SamePass pass own_pass
    same_pass = record { number = refl; first = refl; once = once }

    left_gives : (is : Bool) → begins_with_slash text ≡ true → Gives PlacedSo (name_left site own_pass text is)
    unfolding name_left
    left_gives true begins = record { same = same_pass; begins = begins }
    left_gives false begins =
        gives_then (IsNamed pass) PlacedSo (named own_pass (under_root (root_at site) text))
        (λ name. leaves (placed.Named name))
        (named_gives own_pass same_pass (under_root (root_at site) text) (root_so (root_at site) rooted text))
        (λ name is. is)

    path_gives : Gives PlacedSo (path_left own_pass text)
    unfolding path_left path_without_dots
    path_gives =
        gives_either PlacedSo (has_dots (merge_slashes text)) (ends (Outside DotSegment))
        (leaves (placed.Unnamed (record own_pass { path = merge_slashes text }))) tt
        (record { number = refl; first = refl; once = once })

    text_gives : Gives PlacedSo (text_left site run.passed own_pass text)
    unfolding text_left absolute_left
    text_gives = by (begins_with_slash text) refl
      where
        by : (begins : Bool) → begins_with_slash text ≡ begins
            → Gives PlacedSo (if begins then absolute_left site run.passed own_pass text else ends (Status 400))
        by true begins =
            gives_either PlacedSo run.passed (path_left own_pass text)
            (exists (first_component text) >>= name_left site own_pass text) path_gives
            (gives_then Any PlacedSo (exists (first_component text)) (name_left site own_pass text)
            (gives_any (exists (first_component text))) (λ there any. left_gives there begins))
        by false begins = tt

    finished_gives : Gives PlacedSo (finished site pass run)
    unfolding finished
    finished_gives =
        gives_either PlacedSo run.left.substituted (text_left site run.passed own_pass text)
        (leaves (placed.Unnamed own_pass)) text_gives same_pass

    name_gives : (own : Placed) → PlacedSo own → Gives (IsNamed pass) (name_of site own)
    unfolding name_of mapped_at
    name_gives (placed.Unnamed own) is =
        named_gives own is (map_url site.config site.host own.path own.query site.caller) (url_so own.path own.query)
    name_gives (placed.Named own) is = is

    pub naming_gives : Gives (IsNamed pass) (finished site pass run >>= name_of site)
    naming_gives =
        gives_then PlacedSo (IsNamed pass) (finished site pass run) (name_of site) finished_gives name_gives
