-- A claim on the chains of all requests of a scope: each ends. Our own choice.
use Rattle.std.specs.Prelude.{ℕ, ◌≡◌, ◌==◌, List, [], ◌∷◌, true, codes, if◌then◌else◌}
use Rattle.std.specs.List.{list_all}
use Rattle.hc_dfa.specs.Automata.{Automaton}
use Rattle.hc_follow.specs.declared.next.TheConstants.{SEE_OTHER}
use Rattle.hc_follow.specs.declared.origin.Origin.{Origin}
use Rattle.hc_forms.specs.Forms.{is_host_byte}
use Rattle.hc_model.specs.World.{World}
use Rattle.hc_model.specs.declared.config.Config.{Config}
use Rattle.hc_scope.specs.declared.claim.Claim.TheVariants.{Stops}
use Rattle.hc_scope.specs.declared.claim.Scope.{Scope}
use Rattle.hc_claim.specs.Asking.{Asked}

-- The own servers whose redirects are followed, under a configuration in a world.
pub record Site : Type 0 where
  pub world : World
  pub config : Config
  pub hosts : List Origin

-- Their names have letters, digits, dots and dashes.
abbrev pub HaveNames : List Origin → Type 0
HaveNames hosts = list_all (λ own. list_all is_host_byte own.host) hosts ≡ true

-- The tree of one request of a chain is that of its scope, whatever is claimed.
abbrev pub asked_at : Site → Scope → Asked
asked_at site scope = record { world = site.world; config = site.config; scope = scope; claim = Stops }

-- 303 is followed by GET (Apache manual, mod_alias, Redirect: "seeother").
abbrev pub methods_behind : ℕ → List (List ℕ) → List (List ℕ)
methods_behind status methods = if status == SEE_OTHER then codes "GET" ∷ [] else methods

-- The requests that follow a redirect of this status to an own server, with paths and queries of these sets. Of
-- headers, methods and clients no more is known than what the scope says.
abbrev pub next_scope : Scope → ℕ → Origin → Automaton → Automaton → Scope
next_scope scope status origin paths queries = record scope {
  scheme = origin.scheme;
  port = origin.port;
  host = origin.host;
  methods = methods_behind status scope.methods;
  path = paths;
  query = queries;
}
