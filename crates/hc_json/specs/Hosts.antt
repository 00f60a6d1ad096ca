-- The own servers of a `follow`, and of the claim that chains of redirects end, as they are written. Our own choice.
use Rattle.std.specs.Prelude.{◌≡◌, ℕ, List, [], ◌∷◌, length, Bool, true, ◌&&◌, nat_le, Option, Some, None, is_some}
use Rattle.std.specs.Prelude.{option_map, Result, Ok, codes}
use Rattle.std.specs.List.{list_all}
use Rattle.std.specs.Result.{result_ok}
use Rattle.serde_json.specs.Data.{Data, Items, no_items, item}
use Rattle.serde_json.specs.Find.{as_array}
use Rattle.hc_forms.specs.Forms.{is_host, is_host_byte}
use Rattle.hc_json.specs.Claims.{blaming}
use Rattle.hc_json.specs.Fields.{no_other, wanted, ◌>>=◌}
use Rattle.hc_json.specs.Forms.{port_from, scheme_from, such_that, text_where}
use Rattle.hc_json.specs.declared.hosts.TheConstants.{MOST_HOSTS}
use Rattle.hc_model.specs.declared.request.Scheme.{Scheme}

-- How the URLs of a server begin.
pub record HostForm : Type 0 where
  pub scheme : Scheme
  pub host : List ℕ
  pub port : ℕ

abbrev pub host_fields : List (List ℕ)
host_fields = codes "host" ∷ codes "port" ∷ codes "scheme" ∷ []

abbrev pub fields_of_host : Data → Result HostForm (List ℕ)
fields_of_host d =
    wanted (codes "host") (text_where is_host) d >>= λ host.
    wanted (codes "port") port_from d >>= λ port.
    wanted (codes "scheme") scheme_from d >>= λ scheme.
    Ok (record { scheme = scheme; host = host; port = port })

-- The server that a value is.
abbrev pub host_from : Data → Option HostForm
host_from d = result_ok (no_other host_fields d (fields_of_host d))

abbrev pub are_servers : Items → Bool
are_servers no_items = true
are_servers (item d ds) = is_some (host_from d) && are_servers ds

abbrev pub put_host : Option HostForm → List HostForm → List HostForm
put_host None hosts = hosts
put_host (Some host) hosts = host ∷ hosts

-- The servers among items, in their order.
abbrev pub hosts_of : Items → List HostForm
hosts_of no_items = []
hosts_of (item d ds) = put_host (host_from d) (hosts_of ds)

-- Each is a server, there is one, and there are not too many.
abbrev pub are_hosts : Items → Bool
are_hosts items =
    are_servers items && nat_le 1 (length (hosts_of items)) && nat_le (length (hosts_of items)) MOST_HOSTS

abbrev pub hosts_from : Data → Option (List HostForm)
hosts_from d = option_map hosts_of (such_that are_hosts (as_array d))

-- Whatever is wrong within them, `hosts` is the wrong field.
abbrev pub hosts_in : Data → Result (List HostForm) (List ℕ)
hosts_in d = wanted (codes "hosts") hosts_from d

-- Their names have letters, digits, dots and dashes.
abbrev pub AreNamed : List HostForm → Type 0
AreNamed hosts = list_all (λ own. list_all is_host_byte own.host) hosts ≡ true

-- ---- the claim that chains of redirects end

abbrev pub ending_fields : List (List ℕ)
ending_fields = codes "kind" ∷ codes "hosts" ∷ []

-- Its own servers. Whatever is wrong within it, `claim` is the wrong field.
abbrev pub ending_in : Data → Result (List HostForm) (List ℕ)
ending_in d =
    wanted (codes "claim") Some d >>= λ own. blaming (codes "claim") (no_other ending_fields own (hosts_in own))
