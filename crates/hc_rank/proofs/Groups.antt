-- The groups of a template, gathered from its end.
use Rattle.std.proofs.Common.{◌≡◌, ℕ, suc, ◌-◌, ◌<◌, ◌≤◌, nat_lt, lt-ltb, ◌&&◌, Bool, true}
use Rattle.std.proofs.Common.{false, List, ◌∷◌, length, drop, get_or, None, refl, sym, ap, ◌∙◌, arith}
use Rattle.std.proofs.Math.Seq.{drop-cons}
use Rattle.std.proofs.Math.Bool.{or_comm}
use Rattle.std.proofs.lemmas.Bool.{or_from}
use Rattle.std.specs.Prelude.{◌||◌, ◌==◌, not}
use Rattle.std.specs.List.{list_all}
use Rattle.hc_model.specs.declared.template.Piece.{Piece}
use Rattle.hc_model.specs.declared.template.Piece.TheVariants.{Bytes, Group}
use Rattle.hc_pattern.specs.Bits.{has_byte}
use Rattle.hc_pattern.specs.declared.set.ByteSet.{ByteSet}
use Rattle.hc_rank.specs.Ranks.{groups_in, has_twice, is_plain_piece, is_used}
use Rattle.hc_rank.specs.Sets.{AreGroups, AreGroupsOf}

pub drop_from : {X : Type 0} (xs : List X) (left : ℕ) (x : X) → 0 < left → left ≤ length xs
    → x ≡ get_or xs (left - 1) x → drop (left - 1) xs ≡ x ∷ drop left xs
drop_from xs left x some within is =
    let e : suc (left - 1) ≡ left = omega arith in
    drop-cons xs (left - 1) x (omega arith) ∙ ap (λ first. first ∷ drop (suc (left - 1)) xs) (sym is)
    ∙ ap (λ from. x ∷ drop from xs) e

still_never : (is all used twice : Bool) → (all && not twice) ≡ false
    → ((is && all) && not (used || twice)) ≡ false
still_never false all used twice never = refl
still_never true false used twice never = refl
still_never true true true twice never = refl
still_never true true false twice never = never

-- What isn't plain behind a piece isn't with it.
pub never_plain : (piece : Piece) (template : List Piece) → AreGroups None template
    → AreGroups None (piece ∷ template)
never_plain (Bytes text) template never = never
never_plain (Group number) template never =
    still_never (nat_lt 0 number) (list_all is_plain_piece template) (is_used (groups_in template) number)
    (has_twice (groups_in template)) never
never_plain other template never = refl

-- A group more.
pub with_number : (set next : ByteSet) (number : ℕ) (template : List Piece) → AreGroupsOf set template
    → 0 < number → has_byte set number ≡ false
    → ((other : ℕ) → has_byte next other ≡ (has_byte set other || (other == number)))
    → AreGroupsOf next (Group number ∷ template)
with_number set next number template are some isnt with_one = record {
  holds = record {
    same = λ other. with_one other ∙ ap (λ used. used || (other == number)) (are.holds.same other)
        ∙ or_comm (is_used (groups_in template) other) (other == number);
  };
  plain = rw (lt-ltb 0 number some) are.plain;
  once = or_from _ _ (sym (are.holds.same number) ∙ isnt) are.once;
}
