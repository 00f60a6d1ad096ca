-- A text as it is read sign by sign.
use Rattle.std.proofs.Common.{◌≡◌, ℕ, zero, suc, ◌-◌, ◌<◌, Bool, false, List, [], ◌∷◌, drop}
use Rattle.std.proofs.Common.{get_or, length, length-drop, refl, ap, sym, ◌∙◌, arith}
use Rattle.hc_template.specs.Fronts.{Begins, IsCut, cut, cut_of, part_of}
use Rattle.hc_template.specs.Reading.{inner_behind, lookup_sign, no_lookup, read_behind, sign_at, sign_inside, template}
use Rattle.hc_template.specs.Reading.{with_inner, with_part}
use Rattle.hc_template.specs.declared.front.Front.{Front}
use Rattle.hc_template.specs.declared.front.Front.TheVariants as front
use Rattle.hc_template.specs.declared.front.Sign.{Sign}
use Rattle.hc_template.specs.declared.signs.Names.{Names}
use Rattle.hc_template.specs.declared.signs.Signs.{Signs}

passed : (signs : Signs) (count : ℕ) (bs : List ℕ) → read_behind signs count bs ≡ template signs (drop count bs)
passed signs zero bs = refl
passed signs (suc count) [] = refl
passed signs (suc count) (b ∷ bs) = passed signs count bs

pub begins : (signs : Signs) (text rest : List ℕ) (sign : Sign) → 0 < length text → rest ≡ drop 1 text
    → IsCut signs sign (cut (sign_at signs (get_or text 0 0) rest) rest) (lookup_sign signs)
    → Begins signs sign.signs text (cut_of (lookup_sign signs) signs.names sign.front sign.behind.now)
begins signs [] rest sign some is found = absurd (omega arith)
begins signs (b ∷ bs) rest sign some is found =
    let count = (sign_at signs b bs).length - 1 in
    let found = rw is at found in
    rw found.is (record {
      read = ap (with_part (sign_at signs b bs).part) (passed signs count bs ∙ sym found.left.whole);
      shorter = omega (arith, length-drop count bs);
    })

passed_inside : (ends : ℕ → Bool) (signs : Signs) (count : ℕ) (bs : List ℕ) → inner_behind ends signs count bs
    ≡ inner_behind ends signs 0 (drop count bs)
passed_inside ends signs zero bs = refl
passed_inside ends signs (suc count) [] = refl
passed_inside ends signs (suc count) (b ∷ bs) = passed_inside ends signs count bs

-- Inside a look-up a sign is its part and what follows it.
cut_inside : (names : Names) (found : Front) (behind : List ℕ) → cut_of no_lookup names found behind
    ≡ record { part = part_of names found; behind = behind }
cut_inside names (front.Byte b) behind = refl
cut_inside names (front.Group number) behind = refl
cut_inside names (front.Condition number) behind = refl
cut_inside names (front.Name name) behind = refl
cut_inside names front.Braced behind = refl

-- The same of a key or a fallback.
pub begins_inside : (ends : ℕ → Bool) (signs : Signs) (text rest : List ℕ) (sign : Sign) → 0 < length text
    → rest ≡ drop 1 text → ends (get_or text 0 0) ≡ false
    → IsCut signs sign (cut (sign_inside signs (get_or text 0 0) rest) rest) no_lookup
    → (inner_behind ends signs 0 text ≡ with_inner (part_of signs.names sign.front)
    (inner_behind ends sign.signs 0 sign.behind.now)) × (length sign.behind.now < length text)
begins_inside ends signs [] rest sign some is plain found = absurd (omega arith)
begins_inside ends signs (b ∷ bs) rest sign some is plain found =
    let inside = sign_inside signs b bs in
    let count = inside.length - 1 in
    let found = rw is at found in
    let cut : record { part = part_of signs.names sign.front; behind = sign.behind.now } ≡ cut inside bs =
    sym (cut_inside signs.names sign.front sign.behind.now) ∙ found.is in
    let part : part_of signs.names sign.front ≡ inside.part = ap (λ cut. cut.part) cut in
    let behind : sign.behind.now ≡ drop count bs = ap (λ cut. cut.behind) cut in
    rw (plain, part, behind) (
      ap (with_inner inside.part) (passed_inside ends signs count bs ∙ sym (found.left.inside ends)),
      omega (arith, length-drop count bs),
    )
