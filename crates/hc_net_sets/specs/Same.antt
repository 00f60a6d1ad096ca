-- Marks that are the same in each part are equal.
use Rattle.std.proofs.Common.{◌≡◌, true, false, Bool, refl, ap, ap₂}
use Rattle.std.proofs.Math.Bool.{beq}
use Rattle.std.proofs.lemmas.Bool.{and_parts, eqb-true}
use Rattle.hc_net_sets.specs.contracts.digits.FitsPartialEq.TheImpl as fits
use Rattle.hc_net_sets.specs.contracts.digits.DigitsPartialEq.TheImpl as digits
use Rattle.hc_net_sets.specs.contracts.marks.MarkPartialEq.TheImpl as mark
use Rattle.hc_net_sets.specs.declared.digits.Fits.{Fits}
use Rattle.hc_net_sets.specs.declared.digits.Digits.{Digits}
use Rattle.hc_net_sets.specs.declared.digits.Digits.TheVariants.{Byte, Group, Wrong}
use Rattle.hc_net_sets.specs.declared.marks.Mark.{Mark}
use Rattle.hc_net_sets.specs.declared.marks.Mark.TheVariants.{Start, Colon, Front, After, Back, End, Other}

same_bools : (a b : Bool) → beq a b ≡ true → a ≡ b
same_bools true true e = refl
same_bools false false e = refl
same_bools a b e = cc

same_fits : (x y : Fits) → fits.ghosts.eq x y ≡ true → x ≡ y
same_fits x y e =
    let p = and_parts _ _ e in
    let q = and_parts _ _ p.1 in
    let r = and_parts _ _ q.1 in
    let s = and_parts _ _ r.1 in
    let none = same_bools x.none y.none p.0 in
    let one = same_bools x.one y.one q.0 in
    let two = same_bools x.two y.two r.0 in
    let three = same_bools x.three y.three s.0 in
    let four = same_bools x.four y.four s.1 in
    λ i. record { none = none i; one = one i; two = two i; three = three i; four = four i }

same_digits : (x y : Digits) → digits.ghosts.eq x y ≡ true → x ≡ y
same_digits (Byte a b) (Byte c d) e =
    let p = and_parts _ _ e in
    ap₂ Byte (eqb-true a c p.0) (eqb-true b d p.1)
same_digits (Group a) (Group b) e = ap Group (same_fits a b e)
same_digits Wrong Wrong e = refl
same_digits x y e = cc

pub same_mark : (x y : Mark) → mark.ghosts.eq x y ≡ true → x ≡ y
same_mark Start Start e = refl
same_mark Colon Colon e = refl
same_mark (Front a b) (Front c d) e =
    let p = and_parts _ _ e in
    ap₂ Front (eqb-true a c p.0) (same_digits b d p.1)
same_mark (After a) (After b) e = ap After (eqb-true a b e)
same_mark (Back a b) (Back c d) e =
    let p = and_parts _ _ e in
    ap₂ Back (eqb-true a c p.0) (same_digits b d p.1)
same_mark End End e = refl
same_mark Other Other e = refl
same_mark x y e = cc
