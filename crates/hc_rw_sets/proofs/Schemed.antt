-- Reading what stands before `://`.
use Rattle.std.proofs.Common.{◌≡◌, ℕ, ◌<◌, List, [], ◌∷◌, Bool, true, false, refl, ◌==◌, ◌&&◌, ◌||◌, nat_eq, codes}
use Rattle.std.proofs.Common.{if◌then◌else◌, eqb-true}
use Rattle.std.specs.Char.{is_ascii_alphabetic}
use Rattle.std.specs.Cmp.{nat_eq_equiv}
use Rattle.std.specs.List.{starts_with}
use Rattle.hc_base.specs.Bytes.{colon, slash}
use Rattle.hc_dfa.specs.Readings.{reading_from}
use Rattle.hc_dfa.specs.Texts.{TextSet, IsText}
use Rattle.hc_rw_eval.specs.Locations.{has_scheme, is_scheme_byte, scheme_ends}
use Rattle.hc_rw_sets.specs.Schemes.{next_part, is_whole}
use Rattle.hc_rw_sets.specs.declared.locations.Part.{Part}
use Rattle.hc_rw_sets.specs.declared.locations.Part.TheVariants.{Begin, Scheme, Colon, Slash, Whole, Other}
use Rattle.hc_rw_sets.proofs.Readings.{read_as}

abbrev meant : Part → TextSet
meant Begin text = has_scheme text
meant Scheme text = scheme_ends text
meant Colon text = starts_with nat_eq text (codes "//")
meant Slash text = starts_with nat_eq text (codes "/")
meant Whole text = true
meant Other text = false

part_ends : (part : Part) → is_whole part ≡ meant part []
part_ends Begin = refl
part_ends Scheme = refl
part_ends Colon = refl
part_ends Slash = refl
part_ends Whole = refl
part_ends Other = refl

after_letter : (text : List ℕ) (v : Bool) → meant (if v then Scheme else Other) text ≡ (v && scheme_ends text)
after_letter text true = refl
after_letter text false = refl

or_none : (v : Bool) → v ≡ (v || false)
or_none true = refl
or_none false = refl

after_scheme : (byte : ℕ) (text : List ℕ) (v w : Bool) → (byte == colon) ≡ v → is_scheme_byte byte ≡ w
    → meant (if v then Colon else if w then Scheme else Other) text
    ≡ ((v && starts_with nat_eq text (codes "//")) || (w && scheme_ends text))
after_scheme byte text true true e is =
    absurd (let none : is_scheme_byte colon ≡ true = rw (eqb-true byte colon e) at is in cc)
after_scheme byte text true false e is = or_none _
after_scheme byte text false true e is = refl
after_scheme byte text false false e is = refl

after_own : (part : Part) (own byte : ℕ) (text : List ℕ)
    → meant (if byte == own then part else Other) text ≡ (nat_eq own byte && meant part text)
after_own part own byte text = rw (nat_eq_equiv.symm own byte) (by (byte == own))
  where
    by : (v : Bool) → meant (if v then part else Other) text ≡ (v && meant part text)
    by true = refl
    by false = refl

part_goes_on : (part : Part) (byte : ℕ) (text : List ℕ) → byte < 256
    → meant (next_part part byte) text ≡ meant part (byte ∷ text)
part_goes_on Begin byte text below = after_letter text (is_ascii_alphabetic byte)
part_goes_on Scheme byte text below =
    rw (nat_eq_equiv.symm colon byte) (after_scheme byte text (byte == colon) (is_scheme_byte byte) refl refl)
part_goes_on Colon byte text below = after_own Slash slash byte text
part_goes_on Slash byte text below = after_own Whole slash byte text
part_goes_on Whole byte text below = refl
part_goes_on Other byte text below = refl

pub scheme_read : (text : List ℕ) → IsText text → reading_from next_part is_whole Begin text ≡ has_scheme text
scheme_read text bytes = read_as next_part is_whole meant part_ends part_goes_on Begin text bytes
