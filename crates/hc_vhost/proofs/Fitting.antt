-- Where the front of an alias fits first is as good as any later place.
use Rattle.std.proofs.Common.{◌≡◌, ℕ, List, [], ◌∷◌, Bool, true, false, ◌==◌, ◌||◌, ◌&&◌}
use Rattle.std.proofs.Common.{refl, ap, ◌∙◌, arith}
use Rattle.hc_vhost.specs.Names.{any_bytes, fits, one_byte, stands_for}
use Rattle.hc_base.specs.Bytes.{star}
use Rattle.hc_vhost.specs.NamesView.{FrontBy, LeadsTo}
use Rattle.hc_vhost.specs.declared.name.Front.{Front}
use Rattle.hc_vhost.specs.declared.name.Front.TheVariants.{Ends, Fails, Stars}

or_same : (a : Bool) → (a || a) ≡ a
or_same true = refl
or_same false = refl

-- What some bytes and then some bytes stand for, some bytes stand for.
pub any_any : (test : List ℕ → Bool) (name : List ℕ) → any_bytes (any_bytes test) name ≡ any_bytes test name
any_any test [] = refl
any_any test (c ∷ name) = rw (any_any test name) (more (test (c ∷ name)) (any_bytes test name)) where
  more : (a b : Bool) → ((a || b) || b) ≡ (a || b)
  more true b = refl
  more false b = or_same b

pub any_here : (test : List ℕ → Bool) (name : List ℕ) → test name ≡ true → any_bytes test name ≡ true
any_here test [] is = is
any_here test (c ∷ name) is = rw is refl

-- An end that one byte and then the test takes lies before one that the test takes.
later : (test : List ℕ → Bool) (b : ℕ) (name : List ℕ) → any_bytes (one_byte b test) name ≡ true
    → any_bytes test name ≡ true
later test b [] is = absurd (cc is)
later test b (c ∷ name) is = by (stands_for b c) (test name) refl (later test b name) is where
  any_more : (a : Bool) → any_bytes test name ≡ true → (a || any_bytes test name) ≡ true
  any_more true t = refl
  any_more false t = t

  by : (s t : Bool) → test name ≡ t → (any_bytes (one_byte b test) name ≡ true → any_bytes test name ≡ true)
      → ((s && t) || any_bytes (one_byte b test) name) ≡ true → (test (c ∷ name) || any_bytes test name)
      ≡ true
  by true true e more h = any_more (test (c ∷ name)) (any_here test name e)
  by true false e more h = any_more (test (c ∷ name)) (more h)
  by false t e more h = any_more (test (c ∷ name)) (more h)

-- Where both the name and some end of it are taken exactly in one case, so they are with a byte before each.
pub byte_before : (test : List ℕ → Bool) (b c : ℕ) (name : List ℕ) (e : Bool) → stands_for b c ≡ true
    → test name ≡ e → any_bytes test name ≡ e
    → any_bytes (one_byte b test) (c ∷ name) ≡ e
byte_before test b c name e stands is any = rw (stands, is) (by e (any_bytes (one_byte b test) name) refl any) where
  by : (e more : Bool) → any_bytes (one_byte b test) name ≡ more → any_bytes test name ≡ e → (e || more) ≡ e
  by true more m a = refl
  by false true m a = absurd (cc (later test b name m, a))
  by false false m a = refl

pub leads_here : (alias name : List ℕ) → LeadsTo alias name alias name
leads_here alias name = record { same = refl; ends = λ e is any. any; shorter = omega arith; fewer = omega arith }

pub leads_on : (alias name behind rest further left : List ℕ) → LeadsTo alias name behind rest
    → LeadsTo behind rest further left → LeadsTo alias name further left
leads_on alias name behind rest further left one two = record {
  same = one.same ∙ two.same;
  ends = λ e is any. one.ends e (two.same ∙ is) (two.ends e is any);
  shorter = (let a = one.shorter in let b = two.shorter in omega arith);
  fewer = (let a = one.fewer in let b = two.fewer in omega arith);
}

plain_is : (b : ℕ) (behind : List ℕ) → (b == star) ≡ false → fits (b ∷ behind) ≡ one_byte b (fits behind)
plain_is b behind plain = λ i name. at name i where
  at : (name : List ℕ) → fits (b ∷ behind) name ≡ one_byte b (fits behind) name
  at name = rw plain refl

-- A byte that is no star and stands for the first byte of a name.
pub leads_byte : (b c : ℕ) (behind rest : List ℕ) → (b == star) ≡ false → stands_for b c ≡ true
    → LeadsTo (b ∷ behind) (c ∷ rest) behind rest
leads_byte b c behind rest plain stands = record {
  same = rw (plain, stands) refl;
  ends = λ e is any. ap (λ test. any_bytes test (c ∷ rest)) (plain_is b behind plain)
      ∙ byte_before (fits behind) b c rest e stands is any;
  shorter = omega arith;
  fewer = omega arith;
}

pub front_on : (alias name behind rest : List ℕ) (front : Front) → LeadsTo alias name behind rest
    → FrontBy behind rest front → FrontBy alias name front
front_on alias name behind rest Ends leads is = leads.same ∙ is
front_on alias name behind rest Fails leads is = leads.same ∙ is
front_on alias name behind rest (Stars further left) leads is = (
  leads.same ∙ is.0,
  leads.ends (any_bytes (fits further.now) left.now) is.0 is.1,
  (let a = leads.shorter in let b = is.2 in omega arith),
  (let a = leads.fewer in let b = is.3 in omega arith),
)

pub star_front : (behind name : List ℕ) → any_bytes (fits (star ∷ behind)) name ≡ any_bytes (fits behind) name
star_front behind name = any_any (fits behind) name

-- These of what leads to what, under one name.
pub ruleset leading = (leads_here, leads_on, front_on)
