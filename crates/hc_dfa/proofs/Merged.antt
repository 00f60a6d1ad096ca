-- Automata whose states with the same test are made one.
use Rattle.hc_dfa.proofs.Common.{◌≡◌, ℕ, ◌<◌, List, length, slice_index, Bool, true, false, ◌&&◌, refl}
use Rattle.hc_dfa.proofs.Common.{sym, ◌∙◌, ap, subst, arith, Some, slice_get, ◌≤◌, slice_get_within}
use Rattle.hc_dfa.proofs.Common.{Automaton, states, next_state, accepts, value_on, RespectsFinals, Refines}
use Rattle.hc_dfa.proofs.Common.{IsStable, AreLeaders, IsSignature, Represents, Bounds, is_final, Accepts, product_of}
use Rattle.hc_dfa.proofs.Common.{Both, Classing, AreClasses, Tells, class_of}
use Rattle.hc_dfa.proofs.Runs.{IsAutomaton, next_within, simulated}
use Rattle.hc_dfa.specs.Blocks.{AreApart}
use Rattle.hc_dfa.proofs.Tables.{stands_for}

pub refined_finals : (a : Automaton) (blocks finer : List ℕ) → Refines a blocks finer → RespectsFinals a blocks
    → RespectsFinals a finer
refined_finals a blocks finer refines finals s t sb tb same = finals s t sb tb (refines.own s t sb tb same)

pub stable : (a : Automaton) (blocks finer : List ℕ) → Refines a blocks finer → RespectsFinals a blocks
    → finer ≡ blocks → IsStable a finer
stable a blocks finer refines finals e = record {
  len = refines.len;
  bound = refines.bound;
  finals = refined_finals a blocks finer refines finals;
  steps = λ s t byte sb tb same b. subst (λ (xs : List ℕ). value_on a xs s byte ≡ value_on a xs t byte) (sym e)
      (refines.steps s t byte sb tb same b);
}

pub apart : (a : Automaton) (blocks : List ℕ) → length blocks ≡ states a → AreApart blocks → IsStable a blocks
apart a blocks len own = record {
  len = len;
  bound = λ s sb. rw (at s sb) sb;
  finals = λ s t sb tb same. ap (is_final a) (sym (at s sb) ∙ same ∙ at t tb);
  steps = λ s t byte sb tb same b. ap (λ s. value_on a blocks s byte) (sym (at s sb) ∙ same ∙ at t tb);
}
  where
    at : (s : ℕ) → s < states a → slice_index blocks s ≡ s
    at s sb = own s (rw len sb)

pub merged : (a made : Automaton) (blocks leaders table : List ℕ) → IsAutomaton a → IsStable a blocks
    → AreLeaders (states a) blocks leaders
    → ((s : ℕ) → s < states a → slice_index table s ≡ slice_index leaders (slice_index blocks s))
    → ((s byte : ℕ) → s < states a → byte < 256
    → next_state made s byte ≡ slice_index table (next_state a s byte))
    → made.finals ≡ a.finals → Accepts made (accepts a)
unfolding accepts
merged a made blocks leaders table is stable leads led each finals text bytes =
    simulated a made (λ answer. answer) (λ s t. (s < states a) × (t < states a)
    × (slice_index blocks s ≡ slice_index blocks t))
    (λ s t byte r b.
    let sn = next_within a is s byte r.0 b in
    let tn = next_within a is t byte r.1 b in
    let cell = each t byte r.1 b ∙ led (next_state a t byte) tn in
    let target = leads.bound (value_on a blocks t byte) (stable.bound (next_state a t byte) tn) in (
      sn,
      subst (λ (x : ℕ). x < states a) (sym cell) target,
      (stable.steps s t byte r.0 r.1 r.2 b
          ∙ (sym (leads.block (next_state a t byte) tn) ∙ ap (λ (x : ℕ). slice_index blocks x) (sym cell))),
    ))
    (λ s t r. rw finals (sym (stable.finals s t r.0 r.1 r.2)))
    0 0 text (is.some, is.some, refl) bytes

both_same : (answer : Bool) → (answer && answer) ≡ answer
both_same true = refl
both_same false = refl

pub reduced : (a merged made : Automaton) → Accepts merged (accepts a)
    → Accepts made (product_of Both merged merged) → Accepts made (accepts a)
reduced a merged made first second text bytes = second text bytes
    ∙ (both_same (accepts merged text) ∙ first text bytes)

-- States with one pair of distances are both final, or none is.
abbrev pub IsPaired : List ℕ → List (ℕ × ℕ) → ℕ → ℕ → Type 0
IsPaired d pairs state number = (other : ℕ) × (slice_get pairs number ≡ Some (slice_index d state, other))

pub distances_tell : (a : Automaton) (d blocks : List ℕ) (pairs : List (ℕ × ℕ)) → Bounds a d
    → ((s : ℕ) → s < states a → IsPaired d pairs s (slice_index blocks s))
    → RespectsFinals a blocks
distances_tell a d blocks pairs bounds each s t sb tb same =
    let pair : (slice_index d s, (each s sb).0) ≡ (slice_index d t, (each t tb).0) =
    (let x = (each s sb).1 in let y = (each t tb).1 in cc) in
    let one : slice_index d s ≡ slice_index d t = ap (λ (p : ℕ × ℕ). p.0) pair in
    same_answers (is_final a s) (is_final a t) (λ final. bounds.zero t tb (sym one ∙ bounds.finals s sb final))
    (λ final. bounds.zero s sb (one ∙ bounds.finals t tb final))
  where
    same_answers : (x y : Bool) → (x ≡ true → y ≡ true) → (y ≡ true → x ≡ true) → x ≡ y
    same_answers true y to from = sym (to refl)
    same_answers false true to from = from refl
    same_answers false false to from = refl

-- Each state's number is that of its signature.
abbrev pub AreNumbered : Automaton → List ℕ → List ℕ → List (List ℕ) → ℕ → ℕ → Type 0
AreNumbered a bytes blocks signatures state number = (signature : List ℕ)
    × (slice_get signatures number ≡ Some signature) × IsSignature a bytes blocks state signature

pub refines : (a : Automaton) (bytes blocks finer : List ℕ) (signatures : List (List ℕ))
    → Represents a bytes → length finer ≡ states a → length signatures ≤ states a
    → ((s : ℕ) → s < states a → AreNumbered a bytes blocks signatures s (slice_index finer s))
    → Refines a blocks finer
refines a bytes blocks finer signatures represents len few each = record {
  len = len;
  bound = λ s sb. let e = each s sb in let w = slice_get_within signatures (slice_index finer s) e.0 e.1 in
      omega arith;
  own = λ s t sb tb same. sym (each s sb).2.block
      ∙ (ap (λ (v : List ℕ). slice_index v (length bytes)) (one s t sb tb same)
      ∙ (each t tb).2.block);
  steps = λ s t byte sb tb same b.
      let r = represents byte b in
      ap (λ (x : ℕ). slice_index blocks x) (r.2 s sb) ∙ (sym ((each s sb).2.steps r.0 r.1)
      ∙ (ap (λ (v : List ℕ). slice_index v r.0) (one s t sb tb same)
      ∙ ((each t tb).2.steps r.0 r.1 ∙ ap (λ (x : ℕ). slice_index blocks x) (sym (r.2 t tb)))));
}
  where
    one : (s t : ℕ) (sb : s < states a) (tb : t < states a) → slice_index finer s ≡ slice_index finer t
        → (each s sb).0 ≡ (each t tb).0
    one s t sb tb same = let x = (each s sb).1 in let y = (each t tb).1 in cc

-- The least bytes of the classes represent all bytes.
pub firsts_represent : (c : Classing) (a : Automaton) → AreClasses c → Tells c a → Represents a c.firsts
firsts_represent c a is tells byte below =
    (class_of c byte, is.within byte below, λ s sb. sym (stands_for c a is tells s byte sb below))
