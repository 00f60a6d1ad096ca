-- Requests that are the same in each part are equal.
use Rattle.std.proofs.Common.{◌≡◌, ℕ, true, ◌==◌, List, [], ◌∷◌, sym, ap, refl}
use Rattle.std.proofs.lemmas.Bool.{and_parts, eqb-true}
use Rattle.std.specs.Cmp.Lexicographic.{pointwise, same_text}
use Rattle.hc_addr.specs.declared.addr.Addr.{Addr}
use Rattle.hc_addr.specs.declared.addr.Addr.TheVariants.{V4, V6}
use Rattle.hc_addr.specs.contracts.addr.AddrPartialEq.TheImpl as addr
use Rattle.hc_model.specs.declared.request.Header.{Header}
use Rattle.hc_model.specs.contracts.request.HeaderPartialEq.TheImpl as header
use Rattle.hc_model.specs.declared.request.Scheme.{Scheme}
use Rattle.hc_model.specs.declared.request.Scheme.TheVariants.{Http, Https}
use Rattle.hc_model.specs.contracts.request.SchemePartialEq.TheImpl as scheme
use Rattle.hc_model.specs.declared.request.Request.{Request}
use Rattle.hc_session.specs.Session.{same_request}

text : (a b : List ℕ) → pointwise ◌==◌ a b ≡ true → a ≡ b
text a b e = same_text a b (sym e)

same_scheme : (a b : Scheme) → scheme.ghosts.eq a b ≡ true → a ≡ b
same_scheme Http Http e = refl
same_scheme Https Https e = refl
same_scheme Http Https e = cc
same_scheme Https Http e = cc

same_addr : (a b : Addr) → addr.ghosts.eq a b ≡ true → a ≡ b
same_addr (V4 a) (V4 b) e = ap V4 (eqb-true a b e)
same_addr (V6 a) (V6 b) e = ap V6 (eqb-true a b e)
same_addr (V4 a) (V6 b) e = cc
same_addr (V6 a) (V4 b) e = cc

same_header : (a b : Header) → header.ghosts.eq a b ≡ true → a ≡ b
same_header a b e =
    let both = and_parts _ _ e in
    let name = text a.name b.name both.0 in
    let value = text a.value b.value both.1 in
    λ i. record { name = name i; value = value i }

same_headers : (xs ys : List Header) → pointwise header.ghosts.eq xs ys ≡ true → xs ≡ ys
same_headers [] [] e = refl
same_headers [] (y ∷ ys) e = cc
same_headers (x ∷ xs) [] e = cc
same_headers (x ∷ xs) (y ∷ ys) e =
    let both = and_parts _ _ e in
    let first = same_header x y both.0 in
    let rest = same_headers xs ys both.1 in
    λ i. first i ∷ rest i

pub exact : (a b : Request) → same_request a b ≡ true → a ≡ b
exact a b e =
    let p = and_parts _ _ e in
    let q = and_parts _ _ p.1 in
    let r = and_parts _ _ q.1 in
    let s = and_parts _ _ r.1 in
    let t = and_parts _ _ s.1 in
    let u = and_parts _ _ t.1 in
    let v = and_parts _ _ u.1 in
    let method = text a.method b.method p.0 in
    let scheme = same_scheme a.scheme b.scheme q.0 in
    let server = same_addr a.server b.server r.0 in
    let port = eqb-true a.port b.port s.0 in
    let host = text a.host b.host t.0 in
    let client = same_addr a.client b.client u.0 in
    let headers = same_headers a.headers b.headers v.0 in
    let target = text a.target b.target v.1 in
    λ i. record {
      method = method i;
      scheme = scheme i;
      server = server i;
      port = port i;
      host = host i;
      client = client i;
      headers = headers i;
      target = target i;
    }
