-- The pass and the name behind the rules of the server: the query is what they left, and the name begins with a slash.
use Rattle.hc_abs_again.proofs.Common.{◌≡◌, List, [], ℕ, Bool, true, false, if◌then◌else◌, Option, Some, None, refl}
use Rattle.hc_abs_again.proofs.Common.{leaves, ends, ◌>>=◌, Site, Pass}
use Rattle.std.specs.List.{AllByRecursion}
use Rattle.hc_absolute.specs.Absolute.{IsAbsolute}
use Rattle.hc_alias.specs.Mapping.{map_url, maps_of, under_root}
use Rattle.hc_alias.specs.declared.mapping.Mapped.{Mapped}
use Rattle.hc_alias.specs.declared.mapping.Mapped.TheVariants as mapped
use Rattle.hc_base.specs.Paths.{begins_with_slash, has_dots, merge_slashes}
use Rattle.hc_model.specs.declared.outcome.Outcome.TheVariants.{Outside, Status}
use Rattle.hc_model.specs.declared.outcome.Reason.TheVariants.{DotSegment}
use Rattle.hc_rw_eval.specs.Lists.{begun}
use Rattle.hc_rw_eval.specs.declared.run.Finished.{Finished}
use Rattle.hc_serve.specs.DirectoryRules.{root_at}
unfoldable use Rattle.hc_serve.specs.Passing.{absolute_left, exists, finished, mapped_at, name_left, name_of, named}
unfoldable use Rattle.hc_serve.specs.Passing.{path_left, path_without_dots, text_left}
use Rattle.hc_serve.specs.ServerRules.{first_component, pass_with, state_at}
use Rattle.hc_serve.specs.declared.stage.Named.{Named}
use Rattle.hc_serve.specs.declared.stage.Placed.{Placed}
use Rattle.hc_serve.specs.declared.stage.Placed.TheVariants as placed
use Rattle.hc_vhost.specs.Servers.{servers_of}
use Rattle.hc_abs_segments.proofs.Counting.{gives_behind}
use Rattle.hc_abs_segments.proofs.Merged.{begins_more}
use Rattle.hc_abs_segments.proofs.Names.{IsNamed, naming_gives}
use Rattle.hc_abs_segments.proofs.Once.{Gives, gives_either, gives_then, none_once}

pub record IsRooted (site : Site) : Type 0 where
  pub rooted : (own : List ℕ) → root_at site ≡ Some own → begins_with_slash own ≡ true
  pub aliased : AllByRecursion IsAbsolute (maps_of (servers_of site.config site.host))

module _ (site : Site) (Of : List ℕ → Type 0) where
  pub record NamedSo (own : Named) : Type 0 where
    pub query : Of own.pass.query
    pub begins : IsRooted site → begins_with_slash own.name ≡ true

  abbrev pub PlacedSo : Placed → Type 0
  PlacedSo (placed.Unnamed own) = Of own.query
  PlacedSo (placed.Named own) = NamedSo own

  abbrev BeginsSo : Mapped → Type 0
  BeginsSo (mapped.Name name from) = IsRooted site → begins_with_slash name ≡ true
  BeginsSo (mapped.Away away) = Unit {0}
  BeginsSo mapped.NoRoot = Unit {0}

  named_gives : (own : Pass) → Of own.query → (to : Mapped) → BeginsSo to → Gives NamedSo (named own to)
  unfolding named
  named_gives own seen (mapped.Name name from) is = record { query = seen; begins = is }
  named_gives own seen (mapped.Away away) is = tt
  named_gives own seen mapped.NoRoot is = tt

  url_begins : (path query : List ℕ) → BeginsSo (map_url site.config site.host path query site.caller)
  unfolding finished name_of mapped_at named ◌>>=◌
  url_begins path query =
      by (map_url site.config site.host path query site.caller)
      (λ rooted. naming_gives site bare rooted.rooted rooted.aliased
      (record { left = begun (state_at bare); passed = false }) none_once)
    where
      bare : Pass
      bare = record { number = 0; path = path; query = query; first_query = query; vars = []; end = false }

      by : (to : Mapped) → (IsRooted site → Gives (IsNamed bare) (named bare to)) → BeginsSo to
      by (mapped.Name name from) is = λ rooted. (is rooted).begins
      by (mapped.Away away) is = tt
      by mapped.NoRoot is = tt

  root_begins : (text : List ℕ) → BeginsSo (under_root (root_at site) text)
  root_begins text = by (root_at site) refl
    where
      by : (own : Option (List ℕ)) → root_at site ≡ own → BeginsSo (under_root own text)
      by None is = tt
      by (Some root) is = λ rooted. begins_more root text (rooted.rooted root is)

  pub name_gives : (own : Placed) → PlacedSo own → Gives NamedSo (name_of site own)
  unfolding name_of mapped_at
  name_gives (placed.Unnamed own) is =
      named_gives own is (map_url site.config site.host own.path own.query site.caller) (url_begins own.path own.query)
  name_gives (placed.Named own) is = is

  module _ (pass : Pass) (run : Finished) (seen : Of run.left.state.query) where
    abbrev own_pass : Pass
    own_pass = pass_with pass run.left.state

    abbrev text : List ℕ
    text = run.left.state.text

    left_gives : (is : Bool) → begins_with_slash text ≡ true → Gives PlacedSo (name_left site own_pass text is)
    unfolding name_left
    left_gives true begins = record { query = seen; begins = λ rooted. begins }
    left_gives false begins =
        gives_then NamedSo PlacedSo (named own_pass (under_root (root_at site) text))
        (λ name. leaves (placed.Named name))
        (named_gives own_pass seen (under_root (root_at site) text) (root_begins text)) (λ name is. is)

    path_gives : Gives PlacedSo (path_left own_pass text)
    unfolding path_left path_without_dots
    path_gives =
        gives_either PlacedSo (has_dots (merge_slashes text)) (ends (Outside DotSegment))
        (leaves (placed.Unnamed (record own_pass { path = merge_slashes text }))) tt seen

    text_gives : Gives PlacedSo (text_left site run.passed own_pass text)
    unfolding text_left absolute_left
    text_gives = by (begins_with_slash text) refl
      where
        by : (begins : Bool) → begins_with_slash text ≡ begins
            → Gives PlacedSo (if begins then absolute_left site run.passed own_pass text else ends (Status 400))
        by true begins =
            gives_either PlacedSo run.passed (path_left own_pass text)
            (exists (first_component text) >>= name_left site own_pass text) path_gives
            (gives_behind PlacedSo (exists (first_component text)) (name_left site own_pass text)
            (λ there. left_gives there begins))
        by false begins = tt

    pub finished_gives : Gives PlacedSo (finished site pass run)
    unfolding finished
    finished_gives =
        gives_either PlacedSo run.left.substituted (text_left site run.passed own_pass text)
        (leaves (placed.Unnamed own_pass)) text_gives seen
