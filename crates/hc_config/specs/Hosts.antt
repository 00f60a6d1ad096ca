-- The words of VirtualHost, ServerName and ServerAlias.
-- Apache manual, core: VirtualHost, ServerName, ServerAlias. That an address is IPv4 with a port, and
-- that the port of a ServerName is ignored, is our own choice.
use Rattle.std.specs.Prelude.{ℕ, Bool, ◌+◌, List, [], ◌∷◌, ◌++◌, ◌==◌, ◌||◌, take, drop, Option}
use Rattle.std.specs.Prelude.{Some, None, option_and_then, option_map, Result, Ok, Err, codes, if◌then◌else◌}
use Rattle.std.specs.List.{position}
use Rattle.std.specs.Str.{bytes_eq, str_eq_ignore_ascii_case}
use Rattle.hc_addr.specs.Addresses.{addr_of}
use Rattle.hc_addr.specs.declared.addr.Addr.{Addr}
use Rattle.hc_addr.specs.declared.addr.Addr.TheVariants.{V4, V6}
use Rattle.hc_addr.specs.declared.sizes.TheConstants.{HIGHEST_PORT}
use Rattle.hc_addr.specs.Numbers.{at_most, decimal_of, is_colon}
use Rattle.hc_base.specs.Rules.{rule}
use Rattle.hc_base.specs.declared.codes.TheConstants.{VHOST_ADDRESS}
use Rattle.hc_base.specs.declared.fault.AtByte.{AtByte}
use Rattle.hc_model.specs.declared.config.HostAddr.{HostAddr}

-- A decimal number from 1 to 65,535.
abbrev pub not_zero : Option ℕ → Option ℕ
not_zero None = None
not_zero (Some port) = if port == 0 then None else Some port

abbrev pub port_of : List ℕ → Option ℕ
port_of text = not_zero (at_most HIGHEST_PORT (decimal_of text))

-- `*` and `_default_` stand for any address.
abbrev pub is_any : List ℕ → Bool
is_any text = bytes_eq text (codes "*") || str_eq_ignore_ascii_case text (codes "_default_")

abbrev pub ipv4_of : Addr → Option ℕ
ipv4_of (V4 number) = Some number
ipv4_of (V6 number) = None

abbrev pub address_of : List ℕ → Option (Option ℕ)
address_of text = if is_any text then Some None else option_map Some (option_and_then ipv4_of (addr_of text))

abbrev pub host_addr : Option (Option ℕ) → Option ℕ → Option HostAddr
host_addr None port = None
host_addr (Some addr) None = None
host_addr (Some addr) (Some port) = Some (record { addr = addr; port = port })

-- An address, a colon and a port.
abbrev pub host_addr_at : Option ℕ → List ℕ → Option HostAddr
host_addr_at None word = None
host_addr_at (Some colon) word = host_addr (address_of (take colon word)) (port_of (drop (colon + 1) word))

abbrev pub host_addr_of : List ℕ → Option HostAddr
host_addr_of word = host_addr_at (position is_colon word) word

-- All words behind these, or that one is no address.
abbrev pub addrs_next : Option HostAddr → (HostAddr → Result (List HostAddr) AtByte)
    → Result (List HostAddr) AtByte
addrs_next None more = Err (rule VHOST_ADDRESS)
addrs_next (Some address) more = more address

abbrev pub addrs_from : List HostAddr → List (List ℕ) → Result (List HostAddr) AtByte
addrs_from addrs [] = Ok addrs
addrs_from addrs (word ∷ words) =
    addrs_next (host_addr_of word) (λ address. addrs_from (addrs ++ address ∷ []) words)

abbrev pub host_addrs : List (List ℕ) → Result (List HostAddr) AtByte
host_addrs words = addrs_from [] words

-- What stands before the first colon.
abbrev pub before_port : Option ℕ → List ℕ → List ℕ
before_port None name = name
before_port (Some colon) name = take colon name

abbrev pub name_without_port : List ℕ → List ℕ
name_without_port name = before_port (position is_colon name) name
