-- What is read of clean paths.
use Rattle.std.proofs.Common.{◌≡◌, ◌∙◌, ℕ, ◌==◌, List, [], ◌∷◌, drop, Bool, true, false}
use Rattle.std.proofs.Common.{◌&&◌, ◌||◌, not, refl, sym, ap, eqb-true, subst}
use Rattle.std.proofs.Math.Bool.{and-false}
use Rattle.std.specs.List.{list_any, onto_first, slice_split}
use Rattle.std.specs.Prelude.{cond}
use Rattle.hc_base.specs.Bytes.{dot, slash}
use Rattle.hc_base.specs.Paths.{has_double_slash, is_clean, is_dots, is_slash}
use Rattle.hc_dfa.specs.Readings.{reading_from}
use Rattle.hc_dfa.specs.Texts.{TextSet}
use Rattle.hc_sent.specs.Sets.{ends_clean, next_spot}
use Rattle.hc_sent.specs.declared.clean.Spot.{Spot}
use Rattle.hc_sent.specs.declared.clean.Spot.TheVariants.{Start, Slash, Dot, Dots, Name, Other}

abbrev split : List ℕ → List (List ℕ)
split = slice_split is_slash

-- The rest of a clean path, within a name.
abbrev is_rest : TextSet
is_rest text = not (has_double_slash text) && not (list_any is_dots (drop 1 (split text)))

abbrev meant : Spot → TextSet
meant Start text = is_clean text
meant Slash text = is_clean (slash ∷ text)
meant Dot text = is_clean (slash ∷ dot ∷ text)
meant Dots text = is_clean (slash ∷ dot ∷ dot ∷ text)
meant Name text = is_rest text
meant Other text = false

abbrev Goes : Spot → ℕ → List ℕ → Type 0
Goes spot b text = meant (next_spot spot b) text ≡ meant spot (b ∷ text)

-- ---- a slash, and a dot behind a slash

at_slash : (spot : Spot) (text : List ℕ) → Goes spot slash text
at_slash Dot text = sym (and-false (not (has_double_slash (slash ∷ text))))
at_slash Dots text = sym (and-false (not (has_double_slash (slash ∷ text))))
at_slash spot text = refl

-- ---- names

no_dot : (b : ℕ) (more : List ℕ) (later : Bool) → (b == dot) ≡ false
    → (is_dots (b ∷ more) || later) ≡ later
no_dot b [] later is = ap (λ v. v || later) is
no_dot b (c ∷ []) later is = ap (λ v. (v && (c == dot)) || later) is
no_dot b (c ∷ d ∷ more) later is = refl

no_second : (b : ℕ) (more : List ℕ) (later : Bool) → (b == dot) ≡ false
    → (is_dots (dot ∷ b ∷ more) || later) ≡ later
no_second b [] later is = ap (λ v. v || later) is
no_second b (c ∷ more) later is = refl

module _ (b : ℕ) (text : List ℕ) (other : is_slash b ≡ false) where
  single : (text : List ℕ) → has_double_slash text ≡ has_double_slash (b ∷ text)
  single [] = refl
  single (c ∷ text) = ap (λ v. (v && is_slash c) || has_double_slash (c ∷ text)) (sym other)

  -- A name goes on, or begins behind dots: what stands before it is put to the first segment.
  is_name : (spot : Spot) (onto : List (List ℕ) → List (List ℕ)) → next_spot spot b ≡ Name
      → meant spot (b ∷ text)
      ≡ (not (has_double_slash (b ∷ text)) && not (list_any is_dots (onto (split (b ∷ text)))))
      → list_any is_dots (onto ((b ∷ []) ∷ [])) ≡ false
      → ((part : List ℕ) (parts : List (List ℕ))
      → list_any is_dots (onto ((b ∷ part) ∷ parts)) ≡ list_any is_dots parts)
      → Goes spot b text
  is_name spot onto next is none some =
      ap (λ spot. meant spot text) next ∙ (λ i. not (single text i) && not (sym (by (split text)) i))
      ∙ ap (λ parts. not (has_double_slash (b ∷ text)) && not (list_any is_dots (onto parts))) (sym first)
      ∙ sym is
    where
      first : split (b ∷ text) ≡ onto_first b (split text)
      first = ap (λ v. cond v ([] ∷ split text) (onto_first b (split text))) other

      by : (parts : List (List ℕ))
          → list_any is_dots (onto (onto_first b parts)) ≡ list_any is_dots (drop 1 parts)
      by [] = none
      by (part ∷ parts) = some part parts

  dots_on : Goes Dots b text
  dots_on =
      is_name Dots (λ parts. onto_first dot (onto_first dot parts)) (rw other refl) refl refl (λ part parts. refl)

  name_on : Goes Name b text
  name_on = is_name Name (drop 1) (rw other refl) refl refl (λ part parts. refl)

  at_other : (spot : Spot) → (b == dot) ≡ false → Goes spot b text
  at_other Start isnt = rw other refl
  at_other Slash isnt =
      is_name Slash (λ parts. parts) (rw (other, isnt) refl)
      (ap (λ v. not (v || has_double_slash (b ∷ text)) && not (list_any is_dots (split (b ∷ text)))) other)
      (no_dot b [] false isnt) (λ part parts. no_dot b part (list_any is_dots parts) isnt)
  at_other Dot isnt =
      is_name Dot (onto_first dot) (rw (other, isnt) refl) refl (no_second b [] false isnt)
      (λ part parts. no_second b part (list_any is_dots parts) isnt)
  at_other Dots isnt = dots_on
  at_other Name isnt = name_on
  at_other Other isnt = refl

at_dot : (spot : Spot) (text : List ℕ) → Goes spot dot text
at_dot Dots text = dots_on dot text refl
at_dot Name text = name_on dot text refl
at_dot spot text = refl

goes : (spot : Spot) (b : ℕ) (text : List ℕ) → Goes spot b text
goes spot b text = by (is_slash b) (b == dot) refl refl
  where
    by : (of_slash of_dot : Bool) → is_slash b ≡ of_slash → (b == dot) ≡ of_dot → Goes spot b text
    by true of_dot is other = subst (λ b. Goes spot b text) (sym (eqb-true b slash is)) (at_slash spot text)
    by false true isnt is = subst (λ b. Goes spot b text) (sym (eqb-true b dot is)) (at_dot spot text)
    by false false isnt other = at_other b text isnt spot other

read_on : (spot : Spot) (text : List ℕ) → reading_from next_spot ends_clean spot text ≡ meant spot text
read_on Start [] = refl
read_on spot [] = refl
read_on spot (b ∷ text) = read_on (next_spot spot b) text ∙ goes spot b text

pub clean_read : (text : List ℕ) → reading_from next_spot ends_clean Start text ≡ is_clean text
clean_read text = read_on Start text
