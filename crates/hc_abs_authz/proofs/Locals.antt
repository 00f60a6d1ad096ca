-- Whether the clients of a network may be the machine itself.
use Rattle.std.proofs.Common.{◌≡◌, ◌∙◌, ℕ, ◌-◌, ◌%◌, ◌^◌, ◌<◌, ◌≤◌, Bool, true}
use Rattle.std.proofs.Common.{false, not, ◌&&◌, ◌||◌, ◌⊎◌}
use Rattle.std.proofs.Common.{inl, inr, refl, sym, ap, arith, ◌≢◌, bit_xor, true≢false, ltb-true, lt-ltb}
use Rattle.std.proofs.Common.{subst, eqb-true, eq-eqb}
use Rattle.std.proofs.lemmas.Bool.{and_parts, cases_lt, not-true, or_cases}
use Rattle.std.proofs.lemmas.Nat.{pow_below, xor_lt}
use Rattle.std.proofs.lemmas.Nat.Bits.{bit_at_ones, bit_at_mask_below, bit_at_mask_inside, bit_at_xor, bit_at-lt}
use Rattle.std.proofs.lemmas.Nat.Bits.{bit_at-pow_other, bit_at-pow_same}
use Rattle.std.specs.Int.{bit_at}
use Rattle.std.specs.Int.Bits.{xor_zero_r}
use Rattle.hc_addr.specs.Networks.{holds_at, holds_in, same_under}
use Rattle.hc_addr.specs.declared.addr.Addr.{Addr}
use Rattle.hc_addr.specs.declared.addr.Addr.TheVariants.{V4, V6}
use Rattle.hc_addr.specs.declared.net.Net.{Net}
use Rattle.hc_authz.specs.Values.{same_addr}
use Rattle.hc_abs_authz.specs.Clients.{AreAnswers, ClientMay, IsLowestOpen, IsNet, MayBeOther, client_by, client_with}
use Rattle.hc_abs_authz.specs.Admitting.{clients_of, fits}
use Rattle.hc_abs_authz.specs.Clients.{farthest_from_loopback, is_local_to, loopback_of, mixed}
use Rattle.hc_abs_authz.specs.Clients.{number_of}
use Rattle.hc_abs_authz.specs.Clients.{opposite_of, reaches_local, width_of, with_turned}
use Rattle.hc_abs_authz.specs.declared.nets.TheConstants.{LOOPBACK_V4, LOOPBACK_V6}
use Rattle.hc_abs_authz.proofs.Bits.{HoldsFrom, IsMixed, IsTurned, Local, also_local, none_is_other, masked_same}
use Rattle.hc_abs_authz.proofs.Bits.{turned_same}
use Rattle.hc_abs_authz.proofs.Networks.{fits_opposite, has_client, low_bit, mixed_high, mixed_low, near_is_in}
use Rattle.hc_abs_authz.proofs.Common.{both, first_of, second_of, from_either}

-- ---- a bit turned

turned_there : (far place : ℕ) → bit_at (bit_xor far (2 ^ place)) place ≡ 1 - bit_at far place
turned_there far place =
    omega (arith, bit_at_xor far (2 ^ place) place, bit_at-pow_same place, bit_at-lt far place)

turned_other : (far place i : ℕ) → i ≢ place → bit_at (bit_xor far (2 ^ place)) i ≡ bit_at far i
turned_other far place i apart =
    omega (arith, bit_at_xor far (2 ^ place) i, bit_at-pow_other place i apart, bit_at-lt far i)

turned_low : (far place : ℕ) → place < 32 → IsTurned 32 far place (bit_xor far (2 ^ place) % 2 ^ 32)
turned_low far place within = record {
  small = omega arith;
  there = low_bit (bit_xor far (2 ^ place)) place within ∙ turned_there far place;
  elsewhere = λ i low apart. low_bit (bit_xor far (2 ^ place)) i low ∙ turned_other far place i apart;
}

turned_high : (far place : ℕ) → far < 2 ^ 128 → place < 128 → IsTurned 128 far place (bit_xor far (2 ^ place))
turned_high far place few within = record {
  small = xor_lt 128 far (2 ^ place) few (pow_below place 128 within);
  there = turned_there far place;
  elsewhere = λ i low apart. turned_other far place i apart;
}

-- ---- the masks of the machine's own addresses

ones_low : (place : ℕ) → bit_at (2 ^ 32 - 2 ^ 24) place ≡ 1 → HoldsFrom 32 (2 ^ 32 - 2 ^ 24) place
ones_low place is i low behind = by (cases_lt place 24)
  where
    by : (place < 24) ⊎ (24 ≤ place) → bit_at (2 ^ 32 - 2 ^ 24) i ≡ 1
    by (inl before) =
        let none : bit_at (2 ^ 32 - 2 ^ 24) place ≡ 0 = bit_at_mask_below 24 32 place before in absurd (omega arith)
    by (inr from) = bit_at_mask_inside 24 32 i (omega arith) low

ones_high : (place : ℕ) → bit_at (2 ^ 128 - 1) place ≡ 1 → HoldsFrom 128 (2 ^ 128 - 1) place
ones_high place is i low behind = bit_at_ones 128 i low

-- ---- addresses of one family

pub one_addr : (a b : Addr) → same_addr a b ≡ true → a ≡ b
one_addr (V4 a) (V4 b) is = ap V4 (eqb-true a b is)
one_addr (V6 a) (V6 b) is = ap V6 (eqb-true a b is)
one_addr (V4 a) (V6 b) is = absurd (true≢false (sym is))
one_addr (V6 a) (V4 b) is = absurd (true≢false (sym is))

its_addr : (a : Addr) → same_addr a a ≡ true
its_addr (V4 a) = eq-eqb a a refl
its_addr (V6 a) = eq-eqb a a refl

module _ (server : Addr) where
  one_low : (x y : ℕ) → same_addr (V4 x) server ≡ true → same_addr (V4 y) server ≡ true → x ≡ y
  one_low x y is also = ap number_of (one_addr (V4 x) server is ∙ sym (one_addr (V4 y) server also))

  one_high : (x y : ℕ) → same_addr (V6 x) server ≡ true → same_addr (V6 y) server ≡ true → x ≡ y
  one_high x y is also = ap number_of (one_addr (V6 x) server is ∙ sym (one_addr (V6 y) server also))

-- ---- the number with its lowest open bit turned

module _ (width mask own l far : ℕ) (far_is : IsMixed width mask own (2 ^ width - 1 - l) far)
    (few : l < 2 ^ width) where
  abbrev Turns : ℕ → Type 0
  Turns x =
      ((place : ℕ) × (place < width) × (bit_at mask place ≡ 0) × ((i : ℕ) → i < place → bit_at mask i ≡ 1)
      × IsTurned width far place x)
      ⊎ (((i : ℕ) → i < width → bit_at mask i ≡ 1) × (x ≡ far))

  turned_small : (x : ℕ) → Turns x → x < 2 ^ width
  turned_small x (inl turned) = turned.4.small
  turned_small x (inr full) = subst (λ n. n < 2 ^ width) (sym full.1) far_is.small

  turned_mine : (x : ℕ) → Turns x → own < 2 ^ width → same_under mask x own ≡ true
  turned_mine x (inl turned) small =
      turned_same width mask own l far far_is few turned.0 x turned.4 small turned.2
  turned_mine x (inr full) small =
      ap (λ n. same_under mask n own) full.1 ∙ masked_same width mask own (2 ^ width - 1 - l) far far_is small

  module _ (m2 : ℕ) (ones : (place : ℕ) → bit_at m2 place ≡ 1 → HoldsFrom width m2 place) (Is : ℕ → Type 0)
      (one : (x y : ℕ) → Is x → Is y → x ≡ y) (a : ℕ) (small : a < 2 ^ width)
      (mine : same_under mask a own ≡ true) where
    all_local : (x : ℕ) → Turns x → Local width mask own l far far_is few m2 ones Is one far
        → Local width mask own l far far_is few m2 ones Is one x
        → Local width mask own l far far_is few m2 ones Is one a
    all_local x (inl turned) is also =
        also_local width mask own l far far_is few m2 ones Is one a small mine turned.0 x turned.1 turned.3 turned.4 is
        also
    all_local x (inr full) is also = none_is_other width mask own l far far_is few m2 ones Is one a small mine full.0 is

-- ---- the clients of a network of one family

module _ (mask bits : ℕ) (few : mask < 2 ^ 128) (server : Addr) where
  module _ (own : ℕ) (small : own < 2 ^ 32) where
    abbrev loopback_low : ℕ
    loopback_low = 2130706432

    abbrev far_low : ℕ
    far_low = mixed mask own (2 ^ 32 - 1 - loopback_low) % 2 ^ 32

    far_low_is : IsMixed 32 mask own (2 ^ 32 - 1 - loopback_low) far_low
    far_low_is = mixed_low mask own (2 ^ 32 - 1 - loopback_low) few

    abbrev LocalLow : ℕ → Type 0
    LocalLow =
        Local 32 mask own loopback_low far_low far_low_is (omega arith) (2 ^ 32 - 2 ^ 24) ones_low
        (λ x. same_addr (V4 x) server ≡ true) (one_low server)

    turns_low : IsLowestOpen 32 mask bits
        → Turns 32 mask own loopback_low far_low far_low_is (omega arith) (bit_xor far_low bits % 2 ^ 32)
    turns_low (inl found) =
        inl (
          found.0,
          found.1,
          found.2,
          found.3,
          subst (λ b. IsTurned 32 far_low found.0 (bit_xor far_low b % 2 ^ 32))
              (sym found.4) (turned_low far_low found.0 found.1),
        )
    turns_low (inr full) =
        let same : bit_xor far_low bits ≡ far_low = ap (bit_xor far_low) full.1 ∙ xor_zero_r far_low in
        let few : far_low < 2 ^ 32 = far_low_is.small in
        inr (full.0, ap (λ n. n % 2 ^ 32) same ∙ omega arith)

    local_low : (x : ℕ) → is_local_to server (V4 x) ≡ true → LocalLow x
    local_low x is = or_cases (holds_in LOOPBACK_V4 (V4 x)) (same_addr (V4 x) server) is

    is_local_low : (x : ℕ) → LocalLow x → is_local_to server (V4 x) ≡ true
    is_local_low x is = from_either (holds_in LOOPBACK_V4 (V4 x)) (same_addr (V4 x) server) is

    turned_low_mine : IsLowestOpen 32 mask bits
        → (fits (with_turned (V4 far_low) bits) && holds_at mask (V4 own) (with_turned (V4 far_low) bits)) ≡ true
    turned_low_mine lowest =
        let turns = turns_low lowest in
        both _ _ (lt-ltb _ (2 ^ 32)
        (turned_small 32 mask own loopback_low far_low far_low_is (omega arith) _ turns))
        (turned_mine 32 mask own loopback_low far_low far_low_is (omega arith) _ turns small)

    all_low : IsLowestOpen 32 mask bits → (a : ℕ) → a < 2 ^ 32 → same_under mask a own ≡ true
        → is_local_to server (V4 far_low) ≡ true → is_local_to server (with_turned (V4 far_low) bits) ≡ true
        → is_local_to server (V4 a) ≡ true
    all_low lowest a fit mine is also =
        is_local_low a (all_local 32 mask own loopback_low far_low far_low_is (omega arith) (2 ^ 32 - 2 ^ 24) ones_low
        (λ x. same_addr (V4 x) server ≡ true) (one_low server) a fit mine (bit_xor far_low bits % 2 ^ 32)
        (turns_low lowest) (local_low far_low is) (local_low (bit_xor far_low bits % 2 ^ 32) also))

  module _ (own : ℕ) (small : own < 2 ^ 128) where
    abbrev far_high : ℕ
    far_high = mixed mask own (2 ^ 128 - 1 - 1)

    far_high_is : IsMixed 128 mask own (2 ^ 128 - 1 - 1) far_high
    far_high_is = mixed_high mask own (2 ^ 128 - 1 - 1) few small (omega arith)

    abbrev LocalHigh : ℕ → Type 0
    LocalHigh =
        Local 128 mask own 1 far_high far_high_is (omega arith) (2 ^ 128 - 1) ones_high
        (λ x. same_addr (V6 x) server ≡ true) (one_high server)

    turns_high : IsLowestOpen 128 mask bits
        → Turns 128 mask own 1 far_high far_high_is (omega arith) (bit_xor far_high bits)
    turns_high (inl found) =
        inl (
          found.0,
          found.1,
          found.2,
          found.3,
          subst (λ b. IsTurned 128 far_high found.0 (bit_xor far_high b))
              (sym found.4) (turned_high far_high found.0 far_high_is.small found.1),
        )
    turns_high (inr full) = inr (full.0, ap (bit_xor far_high) full.1 ∙ xor_zero_r far_high)

    local_high : (x : ℕ) → is_local_to server (V6 x) ≡ true → LocalHigh x
    local_high x is = or_cases (holds_in LOOPBACK_V6 (V6 x)) (same_addr (V6 x) server) is

    is_local_high : (x : ℕ) → LocalHigh x → is_local_to server (V6 x) ≡ true
    is_local_high x is = from_either (holds_in LOOPBACK_V6 (V6 x)) (same_addr (V6 x) server) is

    turned_high_mine : IsLowestOpen 128 mask bits
        → (fits (with_turned (V6 far_high) bits) && holds_at mask (V6 own) (with_turned (V6 far_high) bits)) ≡ true
    turned_high_mine lowest =
        let turns = turns_high lowest in
        both _ _ (lt-ltb _ (2 ^ 128) (turned_small 128 mask own 1 far_high far_high_is (omega arith) _ turns))
        (turned_mine 128 mask own 1 far_high far_high_is (omega arith) _ turns small)

    all_high : IsLowestOpen 128 mask bits → (a : ℕ) → a < 2 ^ 128 → same_under mask a own ≡ true
        → is_local_to server (V6 far_high) ≡ true → is_local_to server (with_turned (V6 far_high) bits) ≡ true
        → is_local_to server (V6 a) ≡ true
    all_high lowest a fit mine is also =
        is_local_high a (all_local 128 mask own 1 far_high far_high_is (omega arith) (2 ^ 128 - 1) ones_high
        (λ x. same_addr (V6 x) server ≡ true) (one_high server) a fit mine (bit_xor far_high bits)
        (turns_high lowest) (local_high far_high is) (local_high (bit_xor far_high bits) also))

-- ---- the clients of a network

module _ (mask bits : ℕ) (few : mask < 2 ^ 128) (server : Addr) where
  abbrev far_by : Addr → Addr
  far_by own = client_by mask own (opposite_of (loopback_of own).addr)

  turned_is_client : (own : Addr) → fits own ≡ true → IsLowestOpen (width_of own) mask bits
      → (fits (with_turned (far_by own) bits) && holds_at mask own (with_turned (far_by own) bits)) ≡ true
  turned_is_client (V4 own) fit lowest = turned_low_mine mask bits few server own (ltb-true own (2 ^ 32) fit) lowest
  turned_is_client (V6 own) fit lowest = turned_high_mine mask bits few server own (ltb-true own (2 ^ 128) fit) lowest

  all_are_local : (own client : Addr) → fits own ≡ true → IsLowestOpen (width_of own) mask bits
      → fits client ≡ true → holds_at mask own client ≡ true → is_local_to server (far_by own) ≡ true
      → is_local_to server (with_turned (far_by own) bits) ≡ true → is_local_to server client ≡ true
  all_are_local (V4 own) (V4 a) fit lowest small mine is also =
      all_low mask bits few server own (ltb-true own (2 ^ 32) fit) lowest a (ltb-true a (2 ^ 32) small) mine is also
  all_are_local (V6 own) (V6 a) fit lowest small mine is also =
      all_high mask bits few server own (ltb-true own (2 ^ 128) fit) lowest a (ltb-true a (2 ^ 128) small) mine is also
  all_are_local (V4 own) (V6 a) fit lowest small mine is also = absurd (true≢false (sym mine))
  all_are_local (V6 own) (V4 a) fit lowest small mine is also = absurd (true≢false (sym mine))

module _ (net : Net) (is_net : IsNet net) (server : Addr) where
  near_low : (client : Addr) → clients_of net client ≡ true → holds_in LOOPBACK_V4 client ≡ true
      → reaches_local net server ≡ true
  near_low client mine is =
      first_of (holds_in LOOPBACK_V4 (client_with net (number_of LOOPBACK_V4.addr))) _
      (near_is_in net is_net LOOPBACK_V4 refl client mine is)

  near_high : (client : Addr) → clients_of net client ≡ true → holds_in LOOPBACK_V6 client ≡ true
      → reaches_local net server ≡ true
  near_high client mine is =
      second_of (holds_in LOOPBACK_V4 (client_with net (number_of LOOPBACK_V4.addr))) _
      (first_of (holds_in LOOPBACK_V6 (client_with net (number_of LOOPBACK_V6.addr))) (clients_of net server)
      (near_is_in net is_net LOOPBACK_V6 refl client mine is))

  the_server : (client : Addr) → clients_of net client ≡ true → same_addr client server ≡ true
      → reaches_local net server ≡ true
  the_server client mine is =
      second_of (holds_in LOOPBACK_V4 (client_with net (number_of LOOPBACK_V4.addr))) _
      (second_of (holds_in LOOPBACK_V6 (client_with net (number_of LOOPBACK_V6.addr))) (clients_of net server)
      (ap (clients_of net) (sym (one_addr client server is)) ∙ mine))

  reaches : (client : Addr) → clients_of net client ≡ true
      → (holds_in LOOPBACK_V4 client ≡ true)
      ⊎ ((holds_in LOOPBACK_V6 client || same_addr client server) ≡ true) → reaches_local net server ≡ true
  reaches client mine (inl is) = near_low client mine is
  reaches client mine (inr rest) =
      by (or_cases (holds_in LOOPBACK_V6 client) (same_addr client server) rest)
    where
      by : (holds_in LOOPBACK_V6 client ≡ true) ⊎ (same_addr client server ≡ true) → reaches_local net server ≡ true
      by (inl is) = near_high client mine is
      by (inr is) = the_server client mine is

  reached_low : holds_in LOOPBACK_V4 (client_with net (number_of LOOPBACK_V4.addr)) ≡ true
      → ClientMay net (is_local_to server) true
  reached_low is =
      let rest = number_of LOOPBACK_V4.addr in
      (client_with net rest, has_client net is_net rest (omega arith), first_of _ _ is)

  reached_rest : (holds_in LOOPBACK_V6 (client_with net (number_of LOOPBACK_V6.addr)) ≡ true)
      ⊎ (clients_of net server ≡ true) → ClientMay net (is_local_to server) true
  reached_rest (inl is) =
      let rest = number_of LOOPBACK_V6.addr in (
        client_with net rest,
        has_client net is_net rest (omega arith),
        second_of (holds_in LOOPBACK_V4 (client_with net rest)) _ (first_of _ _ is),
      )
  reached_rest (inr mine) = (
    server,
    mine,
    second_of (holds_in LOOPBACK_V4 server) _
        (second_of (holds_in LOOPBACK_V6 server) (same_addr server server) (its_addr server)),
  )

  reached : reaches_local net server ≡ true → ClientMay net (is_local_to server) true
  reached is =
      by (or_cases (holds_in LOOPBACK_V4 (client_with net (number_of LOOPBACK_V4.addr))) _ is)
    where
      by : (holds_in LOOPBACK_V4 (client_with net (number_of LOOPBACK_V4.addr)) ≡ true)
          ⊎ ((holds_in LOOPBACK_V6 (client_with net (number_of LOOPBACK_V6.addr)) || clients_of net server) ≡ true)
          → ClientMay net (is_local_to server) true
      by (inl low) = reached_low low
      by (inr rest) =
          reached_rest (or_cases (holds_in LOOPBACK_V6 (client_with net (number_of LOOPBACK_V6.addr)))
          (clients_of net server) rest)

  module _ (bits : ℕ) (lowest : IsLowestOpen (width_of net.addr) net.mask bits) where
    abbrev far : Addr
    far = farthest_from_loopback net

    one_isnt : (not (is_local_to server far) ≡ true) ⊎ (not (is_local_to server (with_turned far bits)) ≡ true)
        → ClientMay net (is_local_to server) false
    one_isnt (inl isnt) = (
      far,
      has_client net is_net (opposite_of (loopback_of net.addr).addr)
          (fits_opposite (loopback_of net.addr).addr),
      not-true _ isnt,
    )
    one_isnt (inr isnt) = (
      with_turned far bits,
      turned_is_client net.mask bits is_net.mask server net.addr is_net.addr lowest,
      not-true _ isnt,
    )

    some_isnt : (client : Addr) → clients_of net client ≡ true → is_local_to server client ≡ false
        → (v w : Bool) → is_local_to server far ≡ v → is_local_to server (with_turned far bits) ≡ w
        → (not v || not w) ≡ true
    some_isnt client mine isnt false w is also = refl
    some_isnt client mine isnt true false is also = refl
    some_isnt client mine isnt true true is also =
        let parts = and_parts (fits client) (holds_in net client) mine in
        absurd (true≢false (sym (all_are_local net.mask bits is_net.mask server net.addr client is_net.addr lowest
        parts.0 parts.1 is also) ∙ isnt))

  pub local_may : (held free : Bool) → held ≡ reaches_local net server → MayBeOther net server free
      → AreAnswers (ClientMay net (is_local_to server)) (record { yes = held; no = free })
  local_may held free is other = record {
    yes = (
      λ so. reached (sym is ∙ so),
      λ may. is ∙ reaches may.0 may.1 (or_cases (holds_in LOOPBACK_V4 may.0) _ may.2),
    );
    no = (
      λ so. one_isnt other.0 other.1 (or_cases (not (is_local_to server (farthest_from_loopback net))) _
          (sym other.2 ∙ so)),
      λ may. other.2 ∙ some_isnt other.0 other.1 may.0 may.1 may.2 _ _ refl refl,
    );
  }
