-- What the rows of a map's text give for a set of keys.
use Rattle.std.proofs.Common.{◌≡◌, ℕ, ◌↔◌, ◌⊎◌, ◌||◌, ◌++◌, List, [], ◌∷◌, Bool, true}
use Rattle.std.proofs.Common.{false, cond, Option, Some, None, refl, sym, ap, ◌∙◌, subst, inl, inr, map, nat_eq}
use Rattle.std.proofs.Common.{slice_index}
use Rattle.std.specs.Cmp.Lexicographic.{pointwise, same_text}
use Rattle.std.specs.Option.{is_some, option_or}
use Rattle.std.specs.Str.{bytes_eq}
use Rattle.std.proofs.lemmas.Bool.{both_ways, cases_Bool, or_cases, or_left, or_right}
use Rattle.std.proofs.lemmas.Cmp.{nat_list_eq_equiv}
use Rattle.std.proofs.lemmas.List.Folds.{list_any-append}
use Rattle.std.proofs.lemmas.Option.{cond_some}
use Rattle.hc_dfa.specs.Automata.{Automaton, accepts}
use Rattle.hc_dfa.specs.Built.{Accepts, AcceptsImages}
use Rattle.hc_dfa.specs.Singles.{is_among}
use Rattle.hc_dfa.specs.Texts.{IsText, TextSet}
use Rattle.hc_map.specs.Gathered.{AreGathered, HasOther, IsTableOf, with_row}
use Rattle.hc_map.specs.Images.{IsImageOf, IsValueOf}
use Rattle.hc_map.specs.Maps.{Row}

-- ---- what a key has

pub or_none : {T : Type 0} (o : Option T) → option_or o None ≡ o
or_none None = refl
or_none (Some x) = refl

or_known : {T : Type 0} (o more : Option T) → is_some o ≡ true → option_or o more ≡ o
or_known None more known = absurd (cc)
or_known (Some x) more known = refl

or_unknown : {T : Type 0} (o more : Option T) → is_some o ≡ false → option_or o more ≡ more
or_unknown None more unknown = refl
or_unknown (Some x) more unknown = absurd (cc)

none_is : {T : Type 0} (o : Option T) → is_some o ≡ false → o ≡ None
none_is None unknown = refl
none_is (Some x) unknown = absurd (cc)

some_or : {T : Type 0} (o : Option T) (v : Bool) (x : T) → is_some (option_or o (cond v (Some x) None))
    ≡ (is_some o || (v || false))
some_or None true x = refl
some_or None false x = refl
some_or (Some y) v x = refl

-- ---- a row more

module _ (value : List ℕ → Option (List ℕ)) (set : TextSet) (row : Row) where
  same_key : (key : List ℕ) → bytes_eq row.0 key ≡ true → row.0 ≡ key
  same_key key same = same_text row.0 key (sym same)

  -- The row gives nothing to another key, nor to one that has a value.
  stays : (key : List ℕ) → (row.0 ≡ key → is_some (value key) ≡ true) → with_row value row key ≡ value key
  stays key known = elim (cases_Bool (bytes_eq row.0 key)) [
    | inl same ↦ or_known (value key) _ (known (same_key key same))
    | inr other ↦ rw other (or_none (value key))
  ]

  old_value : (text : List ℕ) → IsValueOf value set text → IsValueOf (with_row value row) set text
  old_value text is = record { key = is.key; bytes = is.bytes; member = is.member; has = rw is.has refl }

  module _ (keys values : List (List ℕ)) (is : AreGathered value set keys values) where
    pub row_outside : set row.0 ≡ false → AreGathered (with_row value row) set keys values
    row_outside outside = record {
      known = λ key member. is.known key member ∙ ap is_some (sym (same key member));
      gained = λ text. (
        (λ among. old_value text ((is.gained text).0 among)),
        (λ more. (is.gained text).1 (record {
          key = more.key;
          bytes = more.bytes;
          member = more.member;
          has = sym (same more.key more.member) ∙ more.has;
        })),
      );
    }
      where
        same : (key : List ℕ) → set key ≡ true → with_row value row key ≡ value key
        same key member = stays key (λ e. absurd (both_ways (set key) (ap set (sym e) ∙ outside) member))

    module _ (member : set row.0 ≡ true) where
      pub known_row : is_among keys row.0 ≡ true → AreGathered (with_row value row) set keys values
      known_row among =
          let known : is_some (value row.0) ≡ true = sym (is.known row.0 member) ∙ among in
          subst (λ more. AreGathered more set keys values)
          (λ i key. sym (stays key (λ e. subst (λ k. is_some (value k) ≡ true) e known)) i) is

      module _ (none : is_among keys row.0 ≡ false) where
        unknown : is_some (value row.0) ≡ false
        unknown = sym (is.known row.0 member) ∙ none

        known_more : (key : List ℕ) → set key ≡ true
            → is_among (keys ++ row.0 ∷ []) key ≡ is_some (with_row value row key)
        known_more key inside =
            list_any-append (pointwise nat_eq key) keys (row.0 ∷ [])
            ∙ (ap (λ x. x || (pointwise nat_eq key row.0 || false)) (is.known key inside)
            ∙ (ap (λ x. is_some (value key) || (x || false)) (nat_list_eq_equiv.symm key row.0)
            ∙ sym (some_or (value key) (bytes_eq row.0 key) row.1)))

        new_value : IsText row.0 → IsValueOf (with_row value row) set row.1
        new_value bytes = record {
          key = row.0;
          bytes = bytes;
          member = member;
          has = or_unknown (value row.0) _ unknown
              ∙ ap (λ same. cond same (Some row.1) None) (nat_list_eq_equiv.refl row.0);
        }

        value_more : (text : List ℕ) → IsValueOf (with_row value row) set text
            → IsValueOf value set text ⊎ (row.1 ≡ text)
        value_more text more = elim (cases_Bool (is_some (value more.key))) [
          | inl known ↦ inl (record {
            key = more.key;
            bytes = more.bytes;
            member = more.member;
            has = sym (or_known (value more.key) _ known) ∙ more.has;
          })
          | inr other ↦ inr (cond_some (bytes_eq row.0 more.key) row.1 text
              (sym (or_unknown (value more.key) _ other) ∙ more.has)).1
        ]

        last : (text : List ℕ) → is_among (values ++ row.1 ∷ []) text
            ≡ (is_among values text || (pointwise nat_eq text row.1 || false))
        last text = list_any-append (pointwise nat_eq text) values (row.1 ∷ [])

        pub row_inside : IsText row.0
            → AreGathered (with_row value row) set (keys ++ row.0 ∷ []) (values ++ row.1 ∷ [])
        row_inside bytes = record {
          known = known_more;
          gained = λ text. (
            (λ among. elim (or_cases _ _ (sym (last text) ∙ among)) [
              | inl old ↦ old_value text ((is.gained text).0 old)
              | inr new ↦ subst (λ t. IsValueOf (with_row value row) set t) (same_last text new) (new_value bytes)
            ]),
            (λ more. last text ∙ elim (value_more text more) [
              | inl old ↦ or_left _ _ ((is.gained text).1 old)
              | inr new ↦ or_right (is_among values text) _ (or_left (pointwise nat_eq text row.1) false
                  (rw (← new) (nat_list_eq_equiv.refl row.1)))
            ]),
          );
        }
          where
            same_last : (text : List ℕ) → (pointwise nat_eq text row.1 || false) ≡ true → row.1 ≡ text
            same_last text same = elim (or_cases (pointwise nat_eq text row.1) false same)
                [ inl e ↦ sym (same_text text row.1 (sym e)) | inr other ↦ absurd (cc) ]

-- ---- all rows

pub no_rows : (set : TextSet) → AreGathered (λ key. None) set [] []
no_rows set = record {
  known = λ key member. refl;
  gained = λ text. ((λ among. absurd (cc)), (λ is. absurd (let none = is.has in cc)));
}

pub image_of_rows : (value : List ℕ → Option (List ℕ)) (set : TextSet) (keys values : List (List ℕ))
    (made : Automaton) (missing : Bool) → AreGathered value set keys values → Accepts made (is_among values)
    → ((missing ≡ true) ↔ HasOther set keys) → IsImageOf value set (record { values = made; missing = missing })
image_of_rows value set keys values made missing is same other = record {
  values = λ text bytes. rw (same text bytes) (is.gained text);
  missing = (
    (λ some.
        let key = other.0 some in
        (key.0, key.1, key.2, none_is (value key.0) (sym (is.known key.0 key.2) ∙ key.3))),
    (λ key. other.1 (key.0, key.1, key.2, is.known key.0 key.2 ∙ ap is_some key.3)),
  );
}

-- ---- changed bytes

pub changed_keys : (a made : Automaton) (table : List ℕ) (change : ℕ → ℕ) → IsTableOf table change
    → AcceptsImages a table made
    → IsImageOf (λ key. Some (map change key)) (accepts a) (record { values = made; missing = false })
changed_keys a made table change is images = record {
  values = λ text bytes. (
    (λ member.
        let from = (images text bytes).0 member in
        record {
          key = from.original;
          bytes = from.bytes;
          member = from.member;
          has = ap Some (sym (mapped from.original from.bytes) ∙ from.replaced);
        }),
    (λ from. (images text bytes).1 (record {
      original = from.key;
      bytes = from.bytes;
      member = from.member;
      replaced = let same = from.has in mapped from.key from.bytes ∙ cc;
    })),
  );
  missing = ((λ none. absurd (cc)), (λ key. absurd (let none = key.3 in cc)));
}
  where
    mapped : (key : List ℕ) → IsText key → map (λ byte. slice_index table byte) key ≡ map change key
    mapped [] bytes = refl
    mapped (byte ∷ key) bytes = let first = is byte bytes.0 in let rest = mapped key bytes.1 in cc
