-- The request that follows a redirect is of the next scope.
use Rattle.std.proofs.Common.{◌≡◌, ℕ, ◌<◌, List, [], ◌∷◌, ◌&&◌, Bool, true, false, refl, sym, subst, arith}
use Rattle.std.proofs.lemmas.Bool.{and_parts, eq-eqb, leb-true}
use Rattle.std.specs.List.{list_all}
use Rattle.std.specs.Prelude.{◌==◌, codes, if◌then◌else◌, nat_le, nat_lt}
use Rattle.hc_dfa.specs.Automata.{Automaton, accepts}
use Rattle.hc_dfa.specs.Texts.{IsText}
use Rattle.hc_follow.specs.Next.{method_behind}
use Rattle.hc_follow.specs.declared.next.TheConstants.{SEE_OTHER}
use Rattle.hc_follow.specs.declared.origin.Origin.{Origin}
use Rattle.hc_forms.specs.Forms.{is_method, is_target, is_target_byte}
use Rattle.hc_members.specs.Requests.{are_headers, is_asked, is_listed, reads_within, same_addr, same_scheme}
unfoldable use Rattle.hc_members.specs.Requests.{is_of_scope}
use Rattle.hc_model.specs.declared.request.Request.{Request}
use Rattle.hc_model.specs.declared.request.Scheme.{Scheme}
use Rattle.hc_model.specs.declared.request.Scheme.TheVariants.{Http, Https}
use Rattle.hc_plan.proofs.Common.{and_both, and_left, and_right}
use Rattle.hc_plan.proofs.Slots.{own_bytes}
use Rattle.hc_scope.specs.Clients.{clients_of}
use Rattle.hc_scope.specs.declared.claim.Scope.{Scope}
use Rattle.hc_target.specs.Segments.{is_plain}
use Rattle.hc_target.specs.Targets.{read}
use Rattle.hc_target.specs.declared.target.TargetRead.TheVariants.{Path}
use Rattle.hc_ends.specs.Asking.{methods_behind, next_scope}

-- ---- texts of bytes

all_bytes : (test : ℕ → Bool) → ((b : ℕ) → test b ≡ true → b < 256) → (text : List ℕ)
    → list_all test text ≡ true → IsText text
all_bytes test small [] all = tt
all_bytes test small (b ∷ text) all =
    (small b (and_left (test b) _ all), all_bytes test small text (and_right (test b) _ all))

pub plain_text : (text : List ℕ) → list_all is_plain text ≡ true → IsText text
plain_text =
    all_bytes is_plain (λ b is.
    let most = leb-true b 255 (and_right _ (nat_le b 255) (and_left (nat_lt 32 b && nat_le b 255) _ is)) in
    omega arith)

pub target_text : (text : List ℕ) → list_all is_target_byte text ≡ true → IsText text
target_text =
    all_bytes is_target_byte (λ b is.
    let most = leb-true b 126 (and_right (nat_lt 32 b) (nat_le b 126) (and_left (nat_lt 32 b && nat_le b 126) _ is)) in
    omega arith)

-- ---- requests

-- What the next request has of the one that it follows.
record IsKept (scope : Scope) (request : Request) : Type 0 where
  server : same_addr scope.server request.server ≡ true
  client : clients_of scope.client request.client ≡ true
  method : is_method request.method ≡ true
  listed : is_listed scope.methods request.method ≡ true
  headers : are_headers [] request.headers ≡ true

kept_of : (scope : Scope) (request : Request) → is_of_scope scope request ≡ true → IsKept scope request
unfolding is_of_scope
kept_of scope request is =
    let all = and_parts (is_asked scope request && clients_of scope.client request.client && _ && _) _ is in
    let three = and_parts (is_asked scope request && clients_of scope.client request.client && _) _ all.0 in
    let two = and_parts (is_asked scope request && clients_of scope.client request.client) _ three.0 in
    let one = and_parts (is_asked scope request) _ two.0 in
    let connection = same_scheme scope.scheme request.scheme && same_addr scope.server request.server in
    let host = and_parts (connection && _) _ one.0 in
    let port = and_parts connection _ host.0 in
    let method = and_parts (is_method request.method) _ two.1 in
    record {
      server = (and_parts (same_scheme scope.scheme request.scheme) _ port.0).1;
      client = one.1;
      method = method.0;
      listed = method.1;
      headers = three.1;
    }

scheme_itself : (scheme : Scheme) → same_scheme scheme scheme ≡ true
scheme_itself Http = refl
scheme_itself Https = refl

-- The method that follows is one of those that follow.
method_follows : (status : ℕ) (methods : List (List ℕ)) (method : List ℕ) → is_method method ≡ true
    → is_listed methods method ≡ true
    → (is_method (method_behind status method) ≡ true)
    × (is_listed (methods_behind status methods) (method_behind status method) ≡ true)
method_follows status methods method is listed = by (status == SEE_OTHER)
  where
    by : (other : Bool) → (is_method (if other then codes "GET" else method) ≡ true)
        × (is_listed (if other then codes "GET" ∷ [] else methods) (if other then codes "GET" else method) ≡ true)
    by true = (refl, refl)
    by false = (is, listed)

pub next_within : (scope : Scope) (request : Request) (status : ℕ) (origin : Origin) (target path query : List ℕ)
    (paths queries : Automaton) → is_of_scope scope request ≡ true → is_target target ≡ true
    → read target ≡ Path path query → accepts paths path ≡ true → accepts queries query ≡ true
    → is_of_scope (next_scope scope status origin paths queries) (record request {
      method = method_behind status request.method;
      scheme = origin.scheme;
      port = origin.port;
      host = origin.host;
      target = target;
    }) ≡ true
unfolding is_of_scope
next_within scope request status origin target path query paths queries is is_a reads goes asks =
    let own = kept_of scope request is in
    let method = method_follows status scope.methods request.method own.method own.listed in
    let next = next_scope scope status origin paths queries in
    and_both (and_both (and_both (and_both (and_both (and_both (and_both (scheme_itself origin.scheme) own.server)
    (eq-eqb origin.port origin.port refl)) (own_bytes origin.host)) own.client) (and_both method.0 method.1))
    own.headers)
    (and_both is_a (subst (λ to. reads_within next to ≡ true) (sym reads) (and_both goes asks)))
