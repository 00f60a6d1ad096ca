-- The texts that a slot may have.
use Rattle.std.proofs.Common.{◌≡◌, ℕ, List, Bool, true, false, ◌&&◌, refl, sym, ap}
use Rattle.std.specs.List.{list_all}
use Rattle.std.specs.Prelude.{nat_lt}
use Rattle.hc_dfa.specs.Automata.{Automaton, accepts}
use Rattle.hc_dfa.specs.Built.{Accepts}
use Rattle.hc_plan.proofs.Common.{fun_ext}
use Rattle.hc_plan.proofs.Made.{is_text}
use Rattle.hc_plan.specs.Hands.{set_in}
use Rattle.hc_plan.specs.Texts.{of_bytes}
use Rattle.hc_dfa.specs.Texts.{TextSet}

pub accepted : (texts : Automaton) (set : TextSet) → Accepts texts set → of_bytes set ≡ set_in texts
accepted texts set are = fun_ext (λ text. by text (list_all (λ b. nat_lt b 256) text) refl)
  where
    by : (text : List ℕ) (bytes : Bool) → list_all (λ b. nat_lt b 256) text ≡ bytes
        → of_bytes set text ≡ set_in texts text
    by text true is = ap (λ own. list_all (λ b. nat_lt b 256) text && own) (sym (are text (is_text text is)))
    by text false is = rw is refl
