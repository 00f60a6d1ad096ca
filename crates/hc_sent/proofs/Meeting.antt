-- What comes of the locations that lead to one own server.
use Rattle.std.proofs.Common.{◌≡◌, ℕ, ◌↔◌, inl, inr, List, [], ◌∷◌, ◌++◌, Bool, true, false, not, ◌==◌, ◌&&◌}
use Rattle.std.proofs.Common.{Option, Some, None, if◌then◌else◌, arith, refl, sym, ◌∙◌, ap, subst}
use Rattle.std.proofs.Common.{nat_lt, nat_le}
use Rattle.std.proofs.lemmas.Bool.{and_parts, leb-true}
use Rattle.std.specs.List.{before_first, list_all}
use Rattle.std.specs.Option.{option_to_list}
use Rattle.hc_base.specs.Bytes.{hash, is_question, slash, tilde}
use Rattle.hc_base.specs.Paths.{begins_with_slash}
use Rattle.hc_dfa.specs.Automata.{Automaton, accepts}
use Rattle.hc_dfa.specs.Built.{Accepts, product_of}
use Rattle.hc_dfa.specs.Texts.{IsText, TextSet}
use Rattle.hc_dfa.specs.declared.products.Keep.TheVariants.{Both}
use Rattle.hc_follow.specs.Next.{slashed}
use Rattle.hc_follow.specs.declared.origin.Origin.{Origin}
use Rattle.hc_forms.specs.Forms.{is_target_byte}
use Rattle.hc_pat_lang.specs.Sets.{AcceptsOnly}
use Rattle.hc_sent.proofs.Doing.{stands_lead}
use Rattle.hc_sent.proofs.Leaving.{rest_bytes}
use Rattle.hc_sent.proofs.Texts.{cut_text, of_both, parts_text}
use Rattle.hc_sent.specs.Sets.{HasOther, HasText, IsWhere}
use Rattle.hc_sent.specs.Sites.{FitsNone, IsOnward, IsOutward, LeadsTo}
use Rattle.hc_sent.specs.Ways.{AreLedFrom, AreLedTo, AreOn, AreOutside, AreReachedBy, AreReachedFrom, GoesAsking}
use Rattle.hc_sent.specs.Ways.{GoesTo}
use Rattle.hc_sent.specs.Ways.{IsAway, IsOpen, IsPath, IsQuery, IsRest, MayFail}
use Rattle.hc_sent.specs.Ways.{Stands, is_query}
use Rattle.hc_sent.specs.declared.leading.Led.{Led}
use Rattle.hc_sent.specs.declared.leading.Led.TheVariants as led
use Rattle.hc_sent.specs.declared.leading.Reach.{Reach}
use Rattle.hc_sent.specs.declared.leading.Reach.TheVariants as reach
use Rattle.hc_sent.specs.declared.parts.Part.{Part}

-- ---- sets of what holds

module _ (P : List ℕ → Type 0) (a b : Automaton) (test : TextSet) (of_a : AcceptsOnly P a) (of_b : Accepts b test) where
  pub other_in : ((text : List ℕ) → P text → IsText text)
      → HasOther (accepts a) (accepts b) ↔ ((text : List ℕ) × P text × (test text ≡ false))
  other_in bytes = (
    (λ has. (has.0, (of_a has.0 has.1).0 has.2, sym (of_b has.0 has.1) ∙ has.3)),
    (λ is.
        let text = bytes is.0 is.1 in
        (is.0, text, (of_a is.0 text).1 is.1, of_b is.0 text ∙ is.2)),
  )

  pub met_in : (made : Automaton) → Accepts made (product_of Both a b)
      → AcceptsOnly (λ text. P text × (test text ≡ true)) made
  met_in made both text bytes =
      let same = of_both a b made text bytes both in (
        (λ accepted.
            let are = same.0 accepted in
            ((of_a text bytes).0 are.0, sym (of_b text bytes) ∙ are.1)),
        (λ held. same.1 ((of_a text bytes).1 held.0, of_b text bytes ∙ held.1)),
      )

-- A set has a text where something holds of one.
pub has_one : (P : List ℕ → Type 0) (a : Automaton) → AcceptsOnly P a → ((text : List ℕ) → P text → IsText text)
    → HasText (accepts a) ↔ ((text : List ℕ) × P text)
has_one P a of_a bytes = (
  (λ has. (has.0, (of_a has.0 has.1).0 has.2)),
  (λ is. let text = bytes is.0 is.1 in (is.0, text, (of_a is.0 text).1 is.1)),
)

pub target_text : (text : List ℕ) → is_query text ≡ true → IsText text
target_text [] all = tt
target_text (b ∷ text) all =
    let parts = and_parts (is_target_byte b) (list_all is_target_byte text) all in
    let inner = and_parts (nat_lt 32 b && nat_le b tilde) (not (b == hash)) parts.0 in
    let most = leb-true b tilde (and_parts (nat_lt 32 b) (nat_le b tilde) inner.0).1 in
    (omega arith, target_text text parts.1)

slashed_text : (text : List ℕ) → IsText text → IsText (slashed text)
slashed_text text bytes = by (begins_with_slash text)
  where
    by : (v : Bool) → IsText (if v then text else slash ∷ text)
    by true = bytes
    by false = (omega arith, bytes)

-- ---- one server

module _ (parts : List Part) (before : List Origin) (origin : Origin) where
  pub path_text : (path : List ℕ) → IsPath parts before origin path → IsText path
  path_text path is =
      subst IsText (sym is.2) (slashed_text (before_first is_question is.0)
      (cut_text _ is.0 (rest_bytes parts before origin is.0 is.1)).0)

  -- Where bytes of the query may be escaped, and where not.
  pub asking_any : (targets : Automaton) → Accepts targets is_query → IsOpen parts before origin
      → AcceptsOnly (GoesAsking parts before origin) targets
  asking_any targets of_targets is_open text bytes = (
    (λ accepted. let is = sym (of_targets text bytes) ∙ accepted in (inl (is_open, is), is)),
    (λ goes. of_targets text bytes ∙ goes.1),
  )

  pub asking_own : (queries : Automaton)
      → AcceptsOnly (λ text. IsQuery parts before origin text × (is_query text ≡ true)) queries
      → (IsOpen parts before origin → ⊥) → AcceptsOnly (GoesAsking parts before origin) queries
  asking_own queries of_queries isnt text bytes =
      let is = of_queries text bytes in (
        (λ accepted. let own = is.0 accepted in (inr own.0, own.1)),
        (λ goes. is.1 (
          elim goes.0 [
            | inl any ↦ absurd (isnt any.0)
            | inr own ↦ own
          ],
          goes.1,
        )),
      )

  pub asking_text : (query : List ℕ) → GoesAsking parts before origin query → IsText query
  asking_text query goes = target_text query goes.1

  pub going_text : (path : List ℕ) → GoesTo parts before origin path → IsText path
  going_text path goes = path_text path goes.0

  pub led_to : (on out : Option Led) → IsOnward parts before origin on → IsOutward parts before origin out
      → AreLedTo parts before origin (option_to_list on ++ option_to_list out)
  led_to on out goes fails = (option_to_list on, option_to_list out, refl, on_list on goes, out_list out fails)
    where
      on_list : (on : Option Led) → IsOnward parts before origin on → AreOn parts before origin (option_to_list on)
      on_list None none = inr (none, refl)
      on_list (Some found) is = inl (found, is.0, is.1, refl)

      out_list : (out : Option Led) → IsOutward parts before origin out
          → AreOutside parts before origin (option_to_list out)
      out_list None none = inr (none, refl)
      out_list (Some found) is = inl (is.0, ap (λ found. found ∷ []) is.1)

  -- Nothing comes where no location leads there.
  pub nothing_led : ((text : List ℕ) → LeadsTo parts before origin text → ⊥) → AreLedTo parts before origin []
  nothing_led none = ([], [], refl, inr (λ go. no_path go.0.0 go.0.1.0, refl), inr (no_fail, refl))
    where
      no_path : (path : List ℕ) → IsPath parts before origin path → ⊥
      no_path path is = none is.1.0 (is.1.1, (is.0, is.1.2))

      no_part : (part : Part) (front own : List ℕ) → Stands parts before origin part front own → ⊥
      no_part part front own stands =
          none (front ++ own ++ stands.rest) (stands_lead parts before origin part front own stands)

      no_fail : MayFail parts before origin → ⊥
      no_fail (inl path) = no_path path.0 path.1
      no_fail (inr (inl hides)) = no_part hides.0 hides.2.front hides.2.own hides.2.stands
      no_fail (inr (inr (inl stays))) = no_part stays.0 stays.2.front stays.2.own stays.2.stands
      no_fail (inr (inr (inr high))) = no_part high.0 high.1 high.2 high.3

-- ---- all servers

module _ (parts : List Part) (before : List Origin) where
  -- Away last, where a location fits none.
  away : (left : Automaton) → AcceptsOnly (FitsNone parts before) left → HasText (accepts left) ↔ IsAway parts before
  away left of_left =
      let same = has_one (FitsNone parts before) left of_left (λ text is. parts_text parts text is.0) in (
        (λ has. let one = same.0 has in (one.0, one.1.0, one.1.1)),
        (λ is. same.1 (is.0, (is.1, is.2))),
      )

  pub led_last : (left : Automaton) (found : Option Led) → AcceptsOnly (FitsNone parts before) left
      → IsWhere (HasText (accepts left)) led.Away found → AreLedFrom parts before [] (option_to_list found)
  led_last left None of_left none = inr (λ is. none ((away left of_left).1 is), refl)
  led_last left (Some found) of_left is = inl ((away left of_left).0 is.0, ap (λ found. found ∷ []) is.1)

  pub reached_last : (left : Automaton) (found : Option Reach) → AcceptsOnly (FitsNone parts before) left
      → IsWhere (HasText (accepts left)) reach.Away found → AreReachedFrom parts before [] (option_to_list found)
  reached_last left None of_left none = inr (λ is. none ((away left of_left).1 is), refl)
  reached_last left (Some found) of_left is = inl ((away left of_left).0 is.0, ap (λ found. found ∷ []) is.1)

  pub reached_by : (origin : Origin) (texts : Automaton) (found : Option Reach)
      → AcceptsOnly (LeadsTo parts before origin) texts
      → IsWhere (HasText (accepts texts)) reach.Own found → AreReachedBy parts before origin (option_to_list found)
  reached_by origin texts found of_texts = by found
    where
      some_rest : HasText (accepts texts) → (rest : List ℕ) × IsRest parts before origin rest
      some_rest has =
          let leads = (of_texts has.0 has.1).0 has.2 in (leads.1.0, (has.0, leads.0, leads.1.1))

      some_text : (rest : List ℕ) → IsRest parts before origin rest → HasText (accepts texts)
      some_text rest is =
          let bytes = parts_text parts is.0 is.1 in (is.0, bytes, (of_texts is.0 bytes).1 (is.1, (rest, is.2)))

      by : (found : Option Reach) → IsWhere (HasText (accepts texts)) reach.Own found
          → AreReachedBy parts before origin (option_to_list found)
      by None none = inr (λ rest is. none (some_text rest is), refl)
      by (Some own) is =
          let rest = some_rest is.0 in inl (rest.0, rest.1, ap (λ found. found ∷ []) is.1)
