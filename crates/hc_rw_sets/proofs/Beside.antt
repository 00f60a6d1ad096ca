-- Reading a text beside a fixed one.
use Rattle.std.proofs.Common.{◌≡◌, ℕ, ◌+◌, ◌<◌, ◌≤◌, inl, inr, List, [], ◌∷◌, Bool, true, false, refl, ◌∙◌, sym}
use Rattle.std.proofs.Common.{length, drop, slice_index, if◌then◌else◌, ◌&&◌, lt-ltb, le-ltb}
use Rattle.std.proofs.lemmas.List.{drop_all, drop_more}
use Rattle.std.proofs.lemmas.Bool.{cases_lt, le-leb, lt-leb}
use Rattle.hc_dfa.specs.Readings.{reading_from}
use Rattle.hc_dfa.specs.Texts.{TextSet, IsText}
use Rattle.hc_rw_sets.specs.Fronts.{is_wanted, same_byte, next_spot, ends_at}
use Rattle.hc_rw_sets.specs.declared.fronts.Spot.{Spot}
use Rattle.hc_rw_sets.specs.declared.fronts.Spot.TheVariants.{At, Other}
use Rattle.hc_rw_sets.proofs.Readings.{read_as}

wanted_one : (nocase goes_on : Bool) (own byte : ℕ) (wanted text : List ℕ)
    → is_wanted nocase goes_on (own ∷ wanted) (byte ∷ text)
    ≡ (same_byte nocase own byte && is_wanted nocase goes_on wanted text)
wanted_one true true own byte wanted text = refl
wanted_one true false own byte wanted text = refl
wanted_one false true own byte wanted text = refl
wanted_one false false own byte wanted text = refl

-- Behind the last byte.
wanted_more : (nocase goes_on : Bool) (byte : ℕ) (text : List ℕ)
    → is_wanted nocase goes_on [] (byte ∷ text) ≡ goes_on
wanted_more true true byte text = refl
wanted_more true false byte text = refl
wanted_more false true byte text = refl
wanted_more false false byte text = refl

wanted_end : (nocase goes_on : Bool) (text : List ℕ) → goes_on ≡ true → is_wanted nocase goes_on [] text ≡ true
wanted_end true true text is = refl
wanted_end false true text is = refl
wanted_end nocase false text is = absurd (cc)

wanted_none : (nocase goes_on : Bool) → is_wanted nocase goes_on [] [] ≡ true
wanted_none true true = refl
wanted_none true false = refl
wanted_none false true = refl
wanted_none false false = refl

wanted_short : (nocase goes_on : Bool) (own : ℕ) (wanted : List ℕ) → is_wanted nocase goes_on (own ∷ wanted) [] ≡ false
wanted_short true true own wanted = refl
wanted_short true false own wanted = refl
wanted_short false true own wanted = refl
wanted_short false false own wanted = refl

module _ (nocase goes_on : Bool) (wanted : List ℕ) where
  abbrev meant : Spot → TextSet
  meant Other text = false
  meant (At place) text = is_wanted nocase goes_on (drop place wanted) text

  spot_ends : (spot : Spot) → ends_at wanted spot ≡ meant spot []
  spot_ends Other = refl
  spot_ends (At place) = elim (cases_lt place (length wanted)) [
    | inl short ↦ rw (drop_more wanted place 0 short, lt-leb (length wanted) place short)
        (sym (wanted_short nocase goes_on _ _))
    | inr whole ↦ rw (drop_all place wanted whole, le-leb (length wanted) place whole) (sym (wanted_none nocase goes_on))
  ]

  spot_goes_on : (spot : Spot) (byte : ℕ) (text : List ℕ) → byte < 256
      → meant (next_spot nocase goes_on wanted spot byte) text ≡ meant spot (byte ∷ text)
  spot_goes_on Other byte text below = refl
  spot_goes_on (At place) byte text below = elim (cases_lt place (length wanted)) [
    | inl short ↦ rw (
      drop_more wanted place 0 short,
      lt-ltb place (length wanted) short,
      wanted_one nocase goes_on (slice_index wanted place) byte (drop (place + 1) wanted) text,
    )
        (by_byte (same_byte nocase (slice_index wanted place) byte))
    | inr whole ↦ rw (le-ltb place (length wanted) whole) (by_rest goes_on refl whole)
  ]
    where
      by_byte : (same : Bool) → meant (if same then At (place + 1) else Other) text
          ≡ (same && is_wanted nocase goes_on (drop (place + 1) wanted) text)
      by_byte true = refl
      by_byte false = refl

      by_rest : (v : Bool) → goes_on ≡ v → length wanted ≤ place → meant (if v then At place else Other) text
          ≡ is_wanted nocase goes_on (drop place wanted) (byte ∷ text)
      by_rest true is whole = rw (drop_all place wanted whole) (wanted_end nocase goes_on text is
          ∙ sym (wanted_more nocase goes_on byte text ∙ is))
      by_rest false is whole = rw (drop_all place wanted whole) (sym (wanted_more nocase goes_on byte text ∙ is))

  pub wanted_read : (text : List ℕ) → IsText text
      → reading_from (next_spot nocase goes_on wanted) (ends_at wanted) (At 0) text
      ≡ is_wanted nocase goes_on wanted text
  wanted_read text bytes =
      read_as (next_spot nocase goes_on wanted) (ends_at wanted) meant spot_ends spot_goes_on (At 0) text bytes
