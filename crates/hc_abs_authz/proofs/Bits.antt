-- Numbers that are the same in the bits of a mask.
use Rattle.std.proofs.Common.{◌≡◌, ◌∙◌, ℕ, zero, suc, ◌/◌, ◌-◌, ◌^◌, ◌<◌, ◌≤◌}
use Rattle.std.proofs.Common.{◌≢◌, true, ◌⊎◌, inl, inr}
use Rattle.std.proofs.Common.{refl, sym, ap, subst, arith, eqb-true, eq-eqb, bit_and}
use Rattle.std.proofs.lemmas.Bool.{cases_lt, cases_eq}
use Rattle.std.proofs.lemmas.Nat.Bits.{bit_at_and, bit_at-lt, bit_at_above}
use Rattle.std.proofs.lemmas.Nat.Bits.{bit_at-suc, bit_at_lowest, same_from_bits}
use Rattle.std.proofs.Math.Nat.{pow-suc}
use Rattle.std.specs.Int.{bit_at}
use Rattle.hc_addr.specs.Networks.{same_under}

pub bit_cases : (n i : ℕ) → (bit_at n i ≡ 1) ⊎ (bit_at n i ≡ 0)
bit_cases n i = by (bit_at n i) (bit_at-lt n i) (cases_eq (bit_at n i) 1)
  where
    by : (d : ℕ) → d < 2 → (d ≡ 1) ⊎ (d ≡ 1 → ⊥) → (d ≡ 1) ⊎ (d ≡ 0)
    by d small (inl is) = inl is
    by d small (inr isnt) = inr (omega arith)

-- ---- the same in the bits of a mask

abbrev pub Agree : ℕ → ℕ → ℕ → Type 0
Agree mask a b = (i : ℕ) → bit_at mask i ≡ 1 → bit_at a i ≡ bit_at b i

pub they_agree : (mask a b : ℕ) → same_under mask a b ≡ true → Agree mask a b
they_agree mask a b same i is =
    let both : bit_at (bit_and a mask) i ≡ bit_at (bit_and b mask) i = ap (λ n. bit_at n i) (eqb-true _ _ same) in
    omega (arith, bit_at_and a mask i, bit_at_and b mask i, bit_at-lt a i, bit_at-lt b i)

masked_bit : (mask a b i : ℕ) → (bit_at mask i ≡ 1) ⊎ (bit_at mask i ≡ 0)
    → (bit_at mask i ≡ 1 → bit_at a i ≡ bit_at b i) → bit_at (bit_and a mask) i ≡ bit_at (bit_and b mask) i
masked_bit mask a b i (inl is) same =
    let one : bit_at a i ≡ bit_at b i = same is in omega (arith, bit_at_and a mask i, bit_at_and b mask i)
masked_bit mask a b i (inr isnt) same =
    omega (arith, bit_at_and a mask i, bit_at_and b mask i, bit_at-lt a i, bit_at-lt b i)

pub are_same : (mask a b : ℕ) → Agree mask a b → same_under mask a b ≡ true
are_same mask a b same =
    eq-eqb (bit_and a mask) (bit_and b mask)
    (same_from_bits (bit_and a mask) (bit_and b mask) (λ i. masked_bit mask a b i (bit_cases mask i) (same i)))

-- A number with each of its bits turned.
pub turned_bit : (width n i : ℕ) → n < 2 ^ width → i < width → bit_at (2 ^ width - 1 - n) i ≡ 1 - bit_at n i
turned_bit zero n i few low = absurd (omega arith)
turned_bit (suc width) n zero few low =
    omega (arith, bit_at_lowest (2 ^ suc width - 1 - n), bit_at_lowest n, pow-suc 2 width)
turned_bit (suc width) n (suc i) few low =
    let half : (2 ^ suc width - 1 - n) / 2 ≡ 2 ^ width - 1 - n / 2 = omega (arith, pow-suc 2 width) in
    bit_at-suc (2 ^ suc width - 1 - n) i ∙ ap (λ x. bit_at x i) half
    ∙ turned_bit width (n / 2) i (omega (arith, pow-suc 2 width)) (omega arith)
    ∙ ap (λ d. 1 - d) (sym (bit_at-suc n i))

-- ---- numbers of so many bits

module _ (width : ℕ) where
  abbrev pub AgreeBelow : ℕ → ℕ → ℕ → Type 0
  AgreeBelow mask a b = (i : ℕ) → i < width → bit_at mask i ≡ 1 → bit_at a i ≡ bit_at b i

  abbrev pub SameBelow : ℕ → ℕ → Type 0
  SameBelow a b = (i : ℕ) → i < width → bit_at a i ≡ bit_at b i

  pub above_too : (a b i : ℕ) → a < 2 ^ width → b < 2 ^ width → (i < width → bit_at a i ≡ bit_at b i)
      → bit_at a i ≡ bit_at b i
  above_too a b i few also same = by (cases_lt i width)
    where
      by : (i < width) ⊎ (width ≤ i) → bit_at a i ≡ bit_at b i
      by (inl low) = same low
      by (inr high) = bit_at_above a width i few high ∙ sym (bit_at_above b width i also high)

  pub agree_below : (mask a b : ℕ) → a < 2 ^ width → b < 2 ^ width → AgreeBelow mask a b → Agree mask a b
  agree_below mask a b few also same i is = above_too a b i few also (λ low. same i low is)

  pub one_number : (a b : ℕ) → a < 2 ^ width → b < 2 ^ width → SameBelow a b → a ≡ b
  one_number a b few also same = same_from_bits a b (λ i. above_too a b i few also (same i))

  -- The bits of the mask are those of the first number, all others those of the second.
  pub record IsMixed (mask own rest x : ℕ) : Type 0 where
    pub small : x < 2 ^ width
    pub masked : (i : ℕ) → i < width → bit_at mask i ≡ 1 → bit_at x i ≡ bit_at own i
    pub other : (i : ℕ) → i < width → bit_at mask i ≡ 0 → bit_at x i ≡ bit_at rest i

  -- From the place on the mask holds each bit.
  abbrev pub HoldsFrom : ℕ → ℕ → Type 0
  HoldsFrom mask place = (i : ℕ) → i < width → place ≤ i → bit_at mask i ≡ 1

  -- One bit is another.
  pub record IsTurned (far place x : ℕ) : Type 0 where
    pub small : x < 2 ^ width
    pub there : bit_at x place ≡ 1 - bit_at far place
    pub elsewhere : (i : ℕ) → i < width → i ≢ place → bit_at x i ≡ bit_at far i

  module _ (mask own rest x : ℕ) (mixed : IsMixed mask own rest x) where
    pub masked_same : own < 2 ^ width → same_under mask x own ≡ true
    masked_same few = are_same mask x own (agree_below mask x own mixed.small few mixed.masked)

    -- ---- the number that is the nearest to another, and the farthest from it

    pub nearest_is_in : (m2 a : ℕ) → rest < 2 ^ width → same_under mask a own ≡ true → same_under m2 a rest ≡ true
        → same_under m2 x rest ≡ true
    nearest_is_in m2 a few mine also =
        are_same m2 x rest (agree_below m2 x rest mixed.small few (λ i low is. by i low is (bit_cases mask i)))
      where
        by : (i : ℕ) → i < width → bit_at m2 i ≡ 1 → (bit_at mask i ≡ 1) ⊎ (bit_at mask i ≡ 0)
            → bit_at x i ≡ bit_at rest i
        by i low is (inl held) =
            mixed.masked i low held ∙ sym (they_agree mask a own mine i held) ∙ they_agree m2 a rest also i is
        by i low is (inr free) = mixed.other i low free

  module _ (mask own l far : ℕ) (mixed : IsMixed mask own (2 ^ width - 1 - l) far) (few : l < 2 ^ width) where
    far_bit : (i : ℕ) → i < width → bit_at mask i ≡ 0 → bit_at far i ≡ bit_at l i → ⊥
    far_bit i low free same =
        let other : bit_at far i ≡ 1 - bit_at l i = mixed.other i low free ∙ turned_bit width l i few low in omega arith

    pub all_are_in : (m2 a : ℕ) → a < 2 ^ width → same_under mask a own ≡ true → same_under m2 far l ≡ true
        → same_under m2 a l ≡ true
    all_are_in m2 a small mine also =
        are_same m2 a l (agree_below m2 a l small few (λ i low is. by i low is (bit_cases mask i)))
      where
        by : (i : ℕ) → i < width → bit_at m2 i ≡ 1 → (bit_at mask i ≡ 1) ⊎ (bit_at mask i ≡ 0)
            → bit_at a i ≡ bit_at l i
        by i low is (inl held) =
            they_agree mask a own mine i held ∙ sym (mixed.masked i low held) ∙ they_agree m2 far l also i is
        by i low is (inr free) = absurd (far_bit i low free (they_agree m2 far l also i is))

    -- ---- the farthest number, and the one with its lowest open bit turned

    pub turned_same : (place x : ℕ) → IsTurned far place x → own < 2 ^ width → bit_at mask place ≡ 0
        → same_under mask x own ≡ true
    turned_same place x turned small free =
        are_same mask x own (agree_below mask x own turned.small small (λ i low is. by i low is (cases_eq i place)))
      where
        by : (i : ℕ) → i < width → bit_at mask i ≡ 1 → (i ≡ place) ⊎ (i ≡ place → ⊥) → bit_at x i ≡ bit_at own i
        by i low is (inl same) =
            let clash : bit_at mask place ≡ 1 = ap (bit_at mask) (sym same) ∙ is in absurd (omega arith)
        by i low is (inr apart) = turned.elsewhere i low apart ∙ mixed.masked i low is

    module _ (m2 place x : ℕ) (within : place < width) (turned : IsTurned far place x) where
      -- Where the place is open in the other network, both numbers are in it or none is.
      still_in : bit_at m2 place ≡ 0 → same_under m2 x l ≡ true → same_under m2 far l ≡ true
      still_in free also =
          are_same m2 far l (agree_below m2 far l mixed.small few (λ i low is. by i low is (cases_eq i place)))
        where
          by : (i : ℕ) → i < width → bit_at m2 i ≡ 1 → (i ≡ place) ⊎ (i ≡ place → ⊥) → bit_at far i ≡ bit_at l i
          by i low is (inl same) =
              let clash : bit_at m2 place ≡ 1 = ap (bit_at m2) (sym same) ∙ is in absurd (omega arith)
          by i low is (inr apart) = sym (turned.elsewhere i low apart) ∙ they_agree m2 x l also i is

      module _ (held : HoldsFrom m2 place) (also : same_under m2 x l ≡ true)
          (below : (i : ℕ) → i < place → bit_at mask i ≡ 1) (a : ℕ) (small : a < 2 ^ width)
          (mine : same_under mask a own ≡ true) where
        as_far : (i : ℕ) → i < width → bit_at mask i ≡ 1 → bit_at a i ≡ bit_at far i
        as_far i low is = they_agree mask a own mine i is ∙ sym (mixed.masked i low is)

        -- Elsewhere the mask leaves nothing open.
        elsewhere : (i : ℕ) → i < width → i ≢ place → bit_at a i ≡ bit_at far i
        elsewhere i low apart = by (cases_lt i place) (bit_cases mask i)
          where
            by : (i < place) ⊎ (place ≤ i) → (bit_at mask i ≡ 1) ⊎ (bit_at mask i ≡ 0)
                → bit_at a i ≡ bit_at far i
            by (inl before) other = as_far i low (below i before)
            by (inr behind) (inl is) = as_far i low is
            by (inr behind) (inr free) =
                absurd (far_bit i low free (sym (turned.elsewhere i low apart) ∙ they_agree m2 x l also i
                (held i low behind)))

        one_of_both : (n : ℕ) → n < 2 ^ width → ((i : ℕ) → i < width → i ≢ place → bit_at n i ≡ bit_at far i)
            → bit_at a place ≡ bit_at n place → a ≡ n
        one_of_both n fits as_it there =
            one_number a n small fits (λ i low. by i low (cases_eq i place))
          where
            by : (i : ℕ) → i < width → (i ≡ place) ⊎ (i ≡ place → ⊥) → bit_at a i ≡ bit_at n i
            by i low (inl same) = ap (bit_at a) same ∙ there ∙ ap (bit_at n) (sym same)
            by i low (inr apart) = elsewhere i low apart ∙ sym (as_it i low apart)

        pub far_or_in : (a ≡ far) ⊎ (same_under m2 a l ≡ true)
        far_or_in = by (cases_eq (bit_at a place) (bit_at far place))
          where
            by : (bit_at a place ≡ bit_at far place) ⊎ (bit_at a place ≡ bit_at far place → ⊥)
                → (a ≡ far) ⊎ (same_under m2 a l ≡ true)
            by (inl same) = inl (one_of_both far mixed.small (λ i low apart. refl) same)
            by (inr apart) =
                let there : bit_at a place ≡ bit_at x place =
                omega (arith, turned.there, bit_at-lt a place, bit_at-lt far place) in
                let is : a ≡ x = one_of_both x turned.small turned.elsewhere there in
                inr (ap (λ n. same_under m2 n l) is ∙ also)

    pub no_other : (a : ℕ) → a < 2 ^ width → same_under mask a own ≡ true
        → ((i : ℕ) → i < width → bit_at mask i ≡ 1) → a ≡ far
    no_other a small mine full =
        one_number a far small mixed.small
        (λ i low. they_agree mask a own mine i (full i low) ∙ sym (mixed.masked i low (full i low)))

    pub turned_apart : (place x : ℕ) → IsTurned far place x → x ≡ far → ⊥
    turned_apart place x turned same =
        let there : bit_at far place ≡ 1 - bit_at far place = ap (λ n. bit_at n place) (sym same) ∙ turned.there in
        omega arith

    -- A number is in the other network, or is a certain one.
    module _ (m2 : ℕ) (ones : (place : ℕ) → bit_at m2 place ≡ 1 → HoldsFrom m2 place) (Is : ℕ → Type 0)
        (one : (x y : ℕ) → Is x → Is y → x ≡ y) where
      abbrev pub Local : ℕ → Type 0
      Local x = (same_under m2 x l ≡ true) ⊎ Is x

      module _ (a : ℕ) (small : a < 2 ^ width) (mine : same_under mask a own ≡ true) where
        pub none_is_other : ((i : ℕ) → i < width → bit_at mask i ≡ 1) → Local far → Local a
        none_is_other full (inl inside) = inl (all_are_in m2 a small mine inside)
        none_is_other full (inr is) = inr (subst Is (sym (no_other a small mine full)) is)

        pub also_local : (place x : ℕ) → place < width → ((i : ℕ) → i < place → bit_at mask i ≡ 1)
            → IsTurned far place x → Local far → Local x → Local a
        also_local place x within below turned (inl inside) other = inl (all_are_in m2 a small mine inside)
        also_local place x within below turned (inr is) (inr other) =
            absurd (turned_apart place x turned (one x far other is))
        also_local place x within below turned (inr is) (inl inside) = by (bit_cases m2 place)
          where
            found : (a ≡ far) ⊎ (same_under m2 a l ≡ true) → Local a
            found (inl same) = inr (subst Is (sym same) is)
            found (inr there) = inl there

            by : (bit_at m2 place ≡ 1) ⊎ (bit_at m2 place ≡ 0) → Local a
            by (inl held) = found (far_or_in m2 place x within turned (ones place held) inside below a small mine)
            by (inr free) = inl (all_are_in m2 a small mine (still_in m2 place x within turned free inside))
