-- What the clients of a network may answer: by the client that is the nearest to a number, and the farthest.
use Rattle.std.proofs.Common.{◌≡◌, ◌∙◌, ℕ, ◌+◌, ◌-◌, ◌*◌, ◌/◌, ◌%◌, ◌^◌}
use Rattle.std.proofs.Common.{◌<◌, Bool, true, false, not, ◌&&◌}
use Rattle.std.proofs.Common.{refl, sym, ap, arith, bit_and, true≢false, ltb-true, lt-ltb}
use Rattle.std.proofs.lemmas.Bool.{and_parts}
use Rattle.std.proofs.lemmas.Nat.{and_le_l, or_lt}
use Rattle.std.proofs.lemmas.Nat.Bits.{bit_at_and, bit_at_or, bit_at-lt, bit_at_cat_low}
use Rattle.std.specs.Int.{bit_at}
use Rattle.hc_addr.specs.Networks.{holds_at, holds_in}
use Rattle.hc_addr.specs.declared.addr.Addr.{Addr}
use Rattle.hc_addr.specs.declared.addr.Addr.TheVariants.{V4, V6}
use Rattle.hc_addr.specs.declared.net.Net.{Net}
use Rattle.hc_abs_authz.specs.Admitting.{clients_of, fits}
use Rattle.hc_abs_authz.specs.Clients.{AreAnswers, ClientMay, IsNet, client_by, client_with, mixed}
use Rattle.hc_abs_authz.specs.Clients.{number_of, opposite_of}
use Rattle.hc_abs_authz.proofs.Bits.{IsMixed, all_are_in, masked_same, nearest_is_in, turned_bit}
use Rattle.hc_abs_authz.proofs.Common.{both}

-- ---- the bits

masked_bit : (mask own rest i : ℕ) → mask < 2 ^ 128 → i < 128 → bit_at mask i ≡ 1
    → bit_at (mixed mask own rest) i ≡ bit_at own i
masked_bit mask own rest i fits low is =
    omega (
      arith,
      bit_at_or (bit_and own mask) (bit_and rest (2 ^ 128 - 1 - mask)) i,
      bit_at_and own mask i,
      bit_at_and rest (2 ^ 128 - 1 - mask) i,
      turned_bit 128 mask i fits low,
      bit_at-lt own i,
    )

other_bit : (mask own rest i : ℕ) → mask < 2 ^ 128 → i < 128 → bit_at mask i ≡ 0
    → bit_at (mixed mask own rest) i ≡ bit_at rest i
other_bit mask own rest i fits low is =
    omega (
      arith,
      bit_at_or (bit_and own mask) (bit_and rest (2 ^ 128 - 1 - mask)) i,
      bit_at_and own mask i,
      bit_at_and rest (2 ^ 128 - 1 - mask) i,
      turned_bit 128 mask i fits low,
      bit_at-lt rest i,
    )

pub low_bit : (n i : ℕ) → i < 32 → bit_at (n % 2 ^ 32) i ≡ bit_at n i
low_bit n i low =
    let whole : n / 2 ^ 32 * 2 ^ 32 + n % 2 ^ 32 ≡ n = omega arith in
    sym (bit_at_cat_low (n / 2 ^ 32) 32 (n % 2 ^ 32) i low) ∙ ap (λ m. bit_at m i) whole

module _ (mask own rest : ℕ) (few : mask < 2 ^ 128) where
  pub mixed_low : IsMixed 32 mask own rest (mixed mask own rest % 2 ^ 32)
  mixed_low = record {
    small = omega arith;
    masked = λ i low is. low_bit (mixed mask own rest) i low ∙ masked_bit mask own rest i few (omega arith) is;
    other = λ i low is. low_bit (mixed mask own rest) i low ∙ other_bit mask own rest i few (omega arith) is;
  }

  pub mixed_high : own < 2 ^ 128 → rest < 2 ^ 128 → IsMixed 128 mask own rest (mixed mask own rest)
  mixed_high small also = record {
    small = or_lt 128 (bit_and own mask) (bit_and rest (2 ^ 128 - 1 - mask)) (omega (arith, and_le_l own mask))
        (omega (arith, and_le_l rest (2 ^ 128 - 1 - mask)));
    masked = λ i low is. masked_bit mask own rest i few low is;
    other = λ i low is. other_bit mask own rest i few low is;
  }

-- ---- addresses

pub fits_number : (addr : Addr) → fits addr ≡ true → number_of addr < 2 ^ 128
fits_number (V4 own) is = let small : own < 2 ^ 32 = ltb-true own (2 ^ 32) is in omega arith
fits_number (V6 own) is = ltb-true own (2 ^ 128) is

pub fits_opposite : (addr : Addr) → opposite_of addr < 2 ^ 128
fits_opposite (V4 own) = omega arith
fits_opposite (V6 own) = omega arith

module _ (mask : ℕ) (few : mask < 2 ^ 128) where
  is_client : (own : Addr) (rest : ℕ) → fits own ≡ true → rest < 2 ^ 128
      → (fits (client_by mask own rest) && holds_at mask own (client_by mask own rest)) ≡ true
  is_client (V4 own) rest fit small =
      let low = mixed_low mask own rest few in
      both _ _ (lt-ltb _ (2 ^ 32) low.small)
      (masked_same 32 mask own rest (mixed mask own rest % 2 ^ 32) low (ltb-true own (2 ^ 32) fit))
  is_client (V6 own) rest fit small =
      let own_small = ltb-true own (2 ^ 128) fit in
      let high = mixed_high mask own rest few own_small small in
      both _ _ (lt-ltb _ (2 ^ 128) high.small) (masked_same 128 mask own rest (mixed mask own rest) high own_small)

  module _ (m2 : ℕ) where
    near : (own other client : Addr) → fits own ≡ true → fits other ≡ true → holds_at mask own client ≡ true
        → holds_at m2 other client ≡ true → holds_at m2 other (client_by mask own (number_of other)) ≡ true
    near (V4 own) (V4 other) (V4 a) fit also mine is =
        nearest_is_in 32 mask own other (mixed mask own other % 2 ^ 32) (mixed_low mask own other few) m2 a
        (ltb-true other (2 ^ 32) also) mine is
    near (V6 own) (V6 other) (V6 a) fit also mine is =
        let small = ltb-true other (2 ^ 128) also in
        nearest_is_in 128 mask own other (mixed mask own other)
        (mixed_high mask own other few (ltb-true own (2 ^ 128) fit) small) m2 a small mine is
    near (V4 own) (V4 other) (V6 a) fit also mine is = absurd (true≢false (sym mine))
    near (V4 own) (V6 other) (V4 a) fit also mine is = absurd (true≢false (sym is))
    near (V4 own) (V6 other) (V6 a) fit also mine is = absurd (true≢false (sym mine))
    near (V6 own) (V4 other) (V4 a) fit also mine is = absurd (true≢false (sym mine))
    near (V6 own) (V4 other) (V6 a) fit also mine is = absurd (true≢false (sym is))
    near (V6 own) (V6 other) (V4 a) fit also mine is = absurd (true≢false (sym mine))

    far : (own other client : Addr) → fits own ≡ true → fits other ≡ true → fits client ≡ true
        → holds_at mask own client ≡ true → holds_at m2 other (client_by mask own (opposite_of other)) ≡ true
        → holds_at m2 other client ≡ true
    far (V4 own) (V4 other) (V4 a) fit also small mine is =
        let rest = 2 ^ 32 - 1 - other in
        all_are_in 32 mask own other (mixed mask own rest % 2 ^ 32) (mixed_low mask own rest few)
        (ltb-true other (2 ^ 32) also) m2 a (ltb-true a (2 ^ 32) small) mine is
    far (V6 own) (V6 other) (V6 a) fit also small mine is =
        let rest = 2 ^ 128 - 1 - other in
        let high = mixed_high mask own rest few (ltb-true own (2 ^ 128) fit) (fits_opposite (V6 other)) in
        all_are_in 128 mask own other (mixed mask own rest) high (ltb-true other (2 ^ 128) also) m2 a
        (ltb-true a (2 ^ 128) small) mine is
    far (V4 own) (V4 other) (V6 a) fit also small mine is = absurd (true≢false (sym mine))
    far (V4 own) (V6 other) (V4 a) fit also small mine is = absurd (true≢false (sym is))
    far (V4 own) (V6 other) (V6 a) fit also small mine is = absurd (true≢false (sym mine))
    far (V6 own) (V4 other) (V4 a) fit also small mine is = absurd (true≢false (sym mine))
    far (V6 own) (V4 other) (V6 a) fit also small mine is = absurd (true≢false (sym is))
    far (V6 own) (V6 other) (V4 a) fit also small mine is = absurd (true≢false (sym mine))

-- ---- networks

module _ (net : Net) (is_net : IsNet net) where
  pub has_client : (rest : ℕ) → rest < 2 ^ 128 → clients_of net (client_with net rest) ≡ true
  has_client rest small = is_client net.mask is_net.mask net.addr rest is_net.addr small

  pub fixed_may : (is : Bool) → AreAnswers (ClientMay net (λ client. is)) (record { yes = is; no = not is })
  fixed_may true = record {
    yes = (λ held. (client_with net 0, has_client 0 (omega arith), refl), λ may. refl);
    no = (λ held. absurd (true≢false (sym held)), λ may. absurd (true≢false may.2));
  }
  fixed_may false = record {
    yes = (λ held. absurd (true≢false (sym held)), λ may. absurd (true≢false (sym may.2)));
    no = (λ held. (client_with net 0, has_client 0 (omega arith), refl), λ may. refl);
  }

  module _ (other : Net) (also : fits other.addr ≡ true) where
    pub near_is_in : (client : Addr) → clients_of net client ≡ true → holds_in other client ≡ true
        → holds_in other (client_with net (number_of other.addr)) ≡ true
    near_is_in client mine is =
        near net.mask is_net.mask other.mask net.addr other.addr client is_net.addr also
        (and_parts (fits client) (holds_in net client) mine).1 is

    pub all_in : (client : Addr) → clients_of net client ≡ true
        → holds_in other (client_with net (opposite_of other.addr)) ≡ true → holds_in other client ≡ true
    all_in client mine is =
        let parts = and_parts (fits client) (holds_in net client) mine in
        far net.mask is_net.mask other.mask net.addr other.addr client is_net.addr also parts.0 parts.1 is

    missed : (client : Addr) → clients_of net client ≡ true → holds_in other client ≡ false → (v : Bool)
        → holds_in other (client_with net (opposite_of other.addr)) ≡ v → not v ≡ true
    missed client mine isnt false is = refl
    missed client mine isnt true is = absurd (true≢false (sym (all_in client mine is) ∙ isnt))

    misses : (v : Bool) → holds_in other (client_with net (opposite_of other.addr)) ≡ v → not v ≡ true
        → ClientMay net (holds_in other) false
    misses false is isnt =
        let rest = opposite_of other.addr in
        (client_with net rest, has_client rest (fits_opposite other.addr), is)
    misses true is isnt = absurd (true≢false (sym isnt))

    pub net_may : (held inside : Bool) → held ≡ holds_in other (client_with net (number_of other.addr))
        → inside ≡ holds_in other (client_with net (opposite_of other.addr))
        → AreAnswers (ClientMay net (holds_in other)) (record { yes = held; no = not inside })
    net_may held inside is isnt = record {
      yes = (
        λ so. let rest = number_of other.addr in
            (client_with net rest, has_client rest (fits_number other.addr also), sym is ∙ so),
        λ may. is ∙ near_is_in may.0 may.1 may.2,
      );
      no = (misses inside (sym isnt), λ may. missed may.0 may.1 may.2 inside (sym isnt));
    }
