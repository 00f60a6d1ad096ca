use Rattle.hc_lines.proofs.Common.{◌≡◌, ℕ, ◌+◌, true, drop, List, sym, ap, subst, ◌∙◌, append_assoc}
use Rattle.hc_lines.proofs.Common.{add-zero, arith, refl, slice_index, backslash, drop-drop, get_or-drop, unescaped}
use Rattle.hc_lines.proofs.Common.{begins_escape, escapable_view}
use Rattle.hc_lines.specs.declared.escape.Escapable.{Escapable}
use Rattle.hc_lines.proofs.WordsScan.{IsEscape, escape_is}
use Rattle.hc_lines.proofs.escape.Escapable.split_escape.Goals as goal

escape : (self : Escapable) (text bytes behind : List ℕ) (at : ℕ) → bytes ≡ text
    → behind ≡ drop (at + 1) text → begins_escape (escapable_view self) (drop at bytes) ≡ true
    → IsEscape (escapable_view self) (drop at text) behind
escape self text bytes behind at e k h =
    let begins : begins_escape (escapable_view self) (drop at text) ≡ true =
    ap (λ bs. begins_escape (escapable_view self) (drop at bs)) (sym e) ∙ h in
    let same : drop 1 (drop at text) ≡ behind = drop-drop 1 at text ∙ sym k in
    subst (IsEscape (escapable_view self) (drop at text)) same (escape_is self (drop at text) begins)

pub cut_behind-requires-clause-ascii : goal.cut_behind-requires-clause-ascii
cut_behind-requires-clause-ascii c =
    let h = escape c.args.self c.args.text.now c.as_bytes.result.now _ c.in_ok-at.at c.as_bytes.ensures.value refl
    c.in_ok-at.ensures.escape in
    let k : slice_index c.args.text.now c.in_ok-at.at ≡ backslash =
    sym (rw add-zero at (get_or-drop c.in_ok-at.at c.args.text.now 0 0)) ∙ h.first in
    omega arith

pub cut_behind-requires-2-clause-within : goal.cut_behind-requires-2-clause-within
cut_behind-requires-2-clause-within c =
    (escape c.args.self c.args.text.now c.as_bytes.result.now _ c.in_ok-at.at c.as_bytes.ensures.value
    c.cut_behind.ensures.back c.in_ok-at.ensures.escape).within

pub cut_behind-requires-2-clause-ascii : goal.cut_behind-requires-2-clause-ascii
cut_behind-requires-2-clause-ascii c =
    (escape c.args.self c.args.text.now c.as_bytes.result.now _ c.in_ok-at.at c.as_bytes.ensures.value
    c.cut_behind.ensures.back c.in_ok-at.ensures.escape).next

pub returns-clause-value : goal.returns-clause-value
returns-clause-value c =
    let h = escape c.args.self c.args.text.now c.as_bytes.result.now _ c.in_ok-at.at c.as_bytes.ensures.value
    c.cut_behind.ensures.back c.in_ok-at.ensures.escape in
    let v = c.in_ok-at.ensures.value in
    cc (
      v,
      h.says,
      append_assoc c.cut_before.result.0.now c.cut_behind-2.result.0.now
          (unescaped (escapable_view c.args.self) c.cut_behind-2.result.1.now),
    )
