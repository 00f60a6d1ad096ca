-- The sign at a place, by its first bytes.
use Rattle.std.proofs.Common.{◌≡◌, ◌⊎◌, inl, inr, ℕ, suc, ◌+◌, ◌-◌, ◌&&◌, Bool, true, false}
use Rattle.std.proofs.Common.{cond, List, ◌∷◌, drop, length, Some, refl, ap, ◌∙◌, arith}
use Rattle.hc_base.specs.Bytes.{backslash, brace_open, percent}
use Rattle.hc_template.specs.Fronts.{Alike, cut}
use Rattle.hc_template.specs.Reading.{Sign, braced_name, escape_sign, name_part, name_sign, name_up_to, percent_sign}
use Rattle.hc_template.specs.Reading.{plain, sign_with}
use Rattle.hc_template.specs.declared.signs.Names.{Names}
use Rattle.hc_template.specs.declared.signs.Names.TheVariants.{Expression, NoName, Rewriting}
use Rattle.hc_template.specs.declared.signs.Signs.{Signs}

pub same_signs : (signs : Signs) (text : List ℕ) → Alike signs signs text
same_signs signs text = record { whole = refl; inside = λ ends. refl }

pub named_cut : (names : Names) (name named rest behind : List ℕ) → rest ≡ brace_open ∷ named
    → Some name ≡ name_up_to named → behind ≡ drop (length name + 1) named
    → record { part = name_part names name; behind = behind } ≡ cut (name_sign names (name_up_to named)) rest
named_cut names name named rest behind is found follows =
    let count : (length name + 3) - 1 ≡ suc (length name + 1) = omega arith in
    rw (is, ← found, follows, count) refl

neither : {A : Type 0} (t : Bool) (one other : A) → cond (t && false) one other ≡ other
neither true one other = refl
neither false one other = refl

named_where : (names : Names) (bs : List ℕ) → (names ≡ Expression) ⊎ (names ≡ Rewriting)
    → braced_name names bs ≡ name_sign names (name_up_to bs)
named_where Expression bs is = refl
named_where Rewriting bs is = refl
named_where NoName bs (inl is) = absurd (cc is)
named_where NoName bs (inr is) = absurd (cc is)

pub percent_named : (signs : Signs) (rest named : List ℕ) → rest ≡ brace_open ∷ named
    → (signs.names ≡ Expression) ⊎ (signs.names ≡ Rewriting)
    → percent_sign signs rest ≡ name_sign signs.names (name_up_to named)
percent_named signs rest named is names = rw is (neither signs.conditions _ _ ∙ named_where signs.names named names)

pub percent_unnamed : (signs : Signs) (rest named : List ℕ) → rest ≡ brace_open ∷ named
    → signs.names ≡ NoName → percent_sign signs rest ≡ plain percent
percent_unnamed signs rest named is names =
    rw is (neither signs.conditions _ _ ∙ ap (λ names. braced_name names named) names)

pub at_escape : (braced : List ℕ → Sign) (signs : Signs) (rest : List ℕ) → signs.escapes ≡ true
    → sign_with braced signs backslash rest ≡ escape_sign rest
at_escape braced signs rest escapes = rw escapes refl

pub at_percent : (braced : List ℕ → Sign) (signs : Signs) (rest : List ℕ) → sign_with braced signs percent rest
    ≡ percent_sign signs rest
at_percent braced signs rest = neither signs.escapes _ _
