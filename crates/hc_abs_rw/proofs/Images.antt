-- What code makes of texts in hand is what plans make of them.
use Rattle.hc_abs_rw.proofs.Common.{◌≡◌, ◌∙◌, ℕ, List, [], ◌∷◌, ◌++◌, drop, length, Bool, true}
use Rattle.hc_abs_rw.proofs.Common.{false, ◌==◌, ◌+◌, if◌then◌else◌, Option, None, Some, refl, sym, ap}
use Rattle.hc_abs_rw.proofs.Common.{subst, inl, arith, append-nil, unwrap_or}
use Rattle.std.specs.Prelude.{is_some, nat_eq, take}
use Rattle.std.specs.Str.{bytes_eq}
use Rattle.std.specs.List.{after_first, before_first, position_or_len, starts_with}
use Rattle.std.proofs.lemmas.List.{take-append-drop}
use Rattle.hc_base.specs.Bytes.{ampersand, is_question, slash}
use Rattle.hc_base.specs.Paths.{ends_with_slash, is_slash}
use Rattle.hc_cells.specs.Cells.{Sets}
use Rattle.hc_dfa.specs.Automata.{Automaton, accepts}
use Rattle.hc_dfa.specs.Built.{Accepts}
use Rattle.hc_dfa.specs.Singles.{single}
use Rattle.hc_dfa.specs.Texts.{IsText, TextSet}
use Rattle.hc_model.specs.declared.request.Caller.{Caller}
use Rattle.hc_pat_lang.specs.Sets.{AcceptsOnly}
use Rattle.hc_plan.proofs.Common.{and_both, and_left, and_right}
use Rattle.hc_plan.proofs.Made.{is_text, set_of_bytes, text_is}
use Rattle.hc_plan.specs.Branches.{Image}
use Rattle.hc_plan.specs.Hands.{cell_of, parts_of, set_in}
use Rattle.hc_plan.specs.Slots.{Slot}
use Rattle.hc_plan.specs.States.{AbsState, AbsText, Has, any_of, whole}
use Rattle.hc_plan.specs.Texts.{IsSetOf}
use Rattle.hc_plan.specs.Ways.{IsHand, IsHandSet}
use Rattle.hc_plan.specs.declared.hand.Element.{Element}
use Rattle.hc_rw_eval.specs.Directories.{behind_base, url_path, with_slash, without_root}
use Rattle.hc_rw_eval.specs.Locations.{is_own, or_slash, own_front, own_path}
use Rattle.hc_rw_expand.specs.Contexts.{Engine}
use Rattle.hc_rw_expand.specs.Queries.{appended}
use Rattle.hc_rw_sets.proofs.Joins.{joined_text, text_parts}
use Rattle.hc_rw_sets.specs.Made.{MadeOf, MadeOfBoth}
use Rattle.hc_target.specs.Urls.{begins_without_case}

-- ---- texts of bytes

cut_text : (count : ℕ) (text : List ℕ) → IsText text → IsText (take count text) × IsText (drop count text)
cut_text count text bytes =
    text_parts (take count text) (drop count text) (subst IsText (sym (take-append-drop count text)) bytes)

pub before_text : (text : List ℕ) → IsText text → IsText (before_first is_question text)
before_text text bytes = (cut_text (position_or_len is_question text) text bytes).0

pub after_text : (text : List ℕ) → IsText text → IsText (after_first is_question text)
after_text text bytes = (cut_text (position_or_len is_question text + 1) text bytes).1

either_text : (is : Bool) (one other : List ℕ) → IsText one → IsText other → IsText (if is then one else other)
either_text true one other first rest = first
either_text false one other first rest = rest

pub appended_text : (new old : List ℕ) → IsText new → IsText old → IsText (appended new old)
appended_text new old first rest =
    either_text (length new == 0) old (if length old == 0 then new else new ++ ampersand ∷ old) rest
    (either_text (length old == 0) new (new ++ ampersand ∷ old) first
    (joined_text new (ampersand ∷ old) first (omega arith, rest)))

slashed_text : (text : List ℕ) → IsText text → IsText (or_slash text)
slashed_text [] bytes = (omega arith, tt)
slashed_text (b ∷ text) bytes = bytes

pub own_text : (caller : Caller) (text path : List ℕ) → IsText text → own_path caller text ≡ Some path
    → IsText path
own_text caller text path bytes is =
    by (begins_without_case (own_front caller.request.scheme) text) (is_own caller (before_first is_slash rest)) is
  where
    rest : List ℕ
    rest = drop (length (own_front caller.request.scheme)) text

    behind : List ℕ
    behind = drop (length (before_first is_slash rest)) rest

    by : (begins own : Bool)
        → (if begins then (if own then Some (or_slash behind) else None) else None) ≡ Some path → IsText path
    by true true is = subst IsText (ap (λ (path : Option (List ℕ)). unwrap_or path []) is)
        (slashed_text behind (cut_text (length (before_first is_slash rest)) rest
        (cut_text (length (own_front caller.request.scheme)) text bytes).1).1)
    by true false is = absurd (let none = is in cc)
    by false own is = absurd (let none = is in cc)

with_slash_text : (dir : List ℕ) → IsText dir → IsText (with_slash dir)
with_slash_text dir bytes =
    either_text (ends_with_slash dir) dir (dir ++ slash ∷ []) bytes
    (joined_text dir (slash ∷ []) bytes (omega arith, tt))

pub url_text : (root : Option (List ℕ)) (engine : Engine) (text : List ℕ) → IsText (unwrap_or engine.base [])
    → IsText text → IsText (url_path root engine text)
url_text root engine text base bytes = by engine.base base
  where
    without : (root : Option (List ℕ)) → IsText (without_root root text)
    without None = bytes
    without (Some root) = either_text (starts_with nat_eq text (root ++ slash ∷ [])) (drop (length root) text) text
        (cut_text (length root) text bytes).1 bytes

    based : (base : List ℕ) (begins : Bool) → IsText base
        → IsText (behind_base base
        (if begins then Some (drop (length (with_slash engine.dir)) text) else None) text)
    based base true is =
        joined_text (with_slash base) (drop (length (with_slash engine.dir)) text) (with_slash_text base is)
        (cut_text (length (with_slash engine.dir)) text bytes).1
    based base false is = bytes

    by : (base : Option (List ℕ)) → IsText (unwrap_or base [])
        → IsText (url_path root (record engine { base = base }) text)
    by None is = without root
    by (Some base) is = based base (starts_with nat_eq text (with_slash engine.dir)) is

-- ---- sets and the texts that they are of

module _ (texts : Automaton) (P : List ℕ → Type 0) (is : IsSetOf (set_in texts) P) where
  pub bytes_of : (x : List ℕ) → P x → IsText x
  bytes_of x p = is_text x (and_left _ (accepts texts x) ((is x).1 p))

  pub accepted : (x : List ℕ) → P x → accepts texts x ≡ true
  accepted x p = and_right _ (accepts texts x) ((is x).1 p)

  pub there : (x : List ℕ) → IsText x → accepts texts x ≡ true → P x
  there x bytes accepted = (is x).0 (and_both (text_is x bytes) accepted)

-- A text in hand of which the elements are known.
pub hand_has : (sets : Sets) (elements : List Element) (side : Option Automaton) (texts : Automaton)
    (cell : Slot → TextSet) (own : AbsText) → cell ≡ cell_of sets → IsHand cell elements 0 side own
    → IsHandSet sets elements 0 side texts → IsSetOf (set_in texts) (Has cell own)
hand_has sets elements side texts cell own same hand is =
    subst (λ cell. IsSetOf (set_in texts) (Has cell own)) (sym same)
    (is own (subst (λ cell. IsHand cell elements 0 side own) same hand))

pub untested_has : (sets : Sets) (elements : List Element) (texts : Automaton) (cell : Slot → TextSet)
    → cell ≡ cell_of sets → IsHandSet sets elements 0 None texts
    → IsSetOf (set_in texts) (Has cell (whole (parts_of elements)))
untested_has sets elements texts cell same =
    hand_has sets elements None texts cell (whole (parts_of elements)) same
    (record { made = refl; behind = refl; lies = inl (λ x bytes. refl) })

-- Any text of a set, and the value of a slot.
pub free_has : (cell : Slot → TextSet) (set : TextSet) → IsSetOf set (Has cell (any_of set))
free_has cell set x = (
  (λ in_set. (x, (x, [], sym (append-nil x), in_set, refl), refl, refl)),
  (λ has.
      let parts = has.1 in
      subst (λ x. set x ≡ true)
      (sym (has.3 ∙ parts.2 ∙ ap (λ rest. parts.0 ++ rest) parts.4 ∙ append-nil parts.0)) parts.3),
)

-- The empty text alone.
pub nothing_has : (set : Automaton) → Accepts set (single []) → IsSetOf (set_in set) (λ x. bytes_eq [] x ≡ true)
nothing_has set is = set_of_bytes (accepts set) (λ x. bytes_eq [] x ≡ true) of_bytes (λ x text. (
  (λ in_set. sym (single_same x) ∙ sym (is x text) ∙ in_set),
  (λ same. is x text ∙ single_same x ∙ same),
))
  where
    single_same : (x : List ℕ) → single [] x ≡ bytes_eq [] x
    single_same [] = refl
    single_same (b ∷ x) = refl

    of_bytes : (x : List ℕ) → bytes_eq [] x ≡ true → IsText x
    of_bytes [] is = tt
    of_bytes (b ∷ x) is = absurd (let none = is in cc)

-- ---- images

-- A function that makes texts of bytes of such texts.
abbrev pub MakesTexts : (List ℕ → List ℕ) → Type 0
MakesTexts make = (text : List ℕ) → IsText text → IsText (make text)

pub image_set : (state : AbsState) (own : AbsText) (make : List ℕ → List ℕ) (texts made : Automaton)
    → IsSetOf (set_in texts) (Has state.cell own) → MakesTexts make
    → AcceptsOnly (MadeOf make (accepts texts)) made
    → IsSetOf (set_in made) (Image state (λ text also. make text) own own)
image_set state own make texts made is keeps are =
    set_of_bytes (accepts made) (Image state (λ text also. make text) own own)
    (λ x image. subst IsText (sym image.4) (keeps image.0 (bytes_of texts (Has state.cell own) is image.0 image.2)))
    (λ x bytes. (
      (λ in_made.
          let of = (are x bytes).0 in_made in
          let has = there texts (Has state.cell own) is of.0 of.1 of.2 in
          (of.0, of.0, has, has, of.3)),
      (λ image.
          (are x bytes).1 (
            image.0,
            bytes_of texts (Has state.cell own) is image.0 image.2,
            accepted texts (Has state.cell own) is image.0 image.2,
            image.4,
          )),
    ))

pub both_images : (state : AbsState) (one other : AbsText) (make : List ℕ → List ℕ → List ℕ)
    (first second made : Automaton) → IsSetOf (set_in first) (Has state.cell one)
    → IsSetOf (set_in second) (Has state.cell other)
    → ((x y : List ℕ) → IsText x → IsText y → IsText (make x y))
    → AcceptsOnly (MadeOfBoth make (accepts first) (accepts second)) made
    → IsSetOf (set_in made) (Image state make one other)
both_images state one other make first second made is also keeps are =
    set_of_bytes (accepts made) (Image state make one other)
    (λ x image. subst IsText (sym image.4)
    (keeps image.0 image.1 (bytes_of first (Has state.cell one) is image.0 image.2)
    (bytes_of second (Has state.cell other) also image.1 image.3)))
    (λ x bytes. (
      (λ in_made.
          let of = (are x bytes).0 in_made in (
            of.0,
            of.1,
            there first (Has state.cell one) is of.0 of.2 of.4,
            there second (Has state.cell other) also of.1 of.3 of.5,
            of.6,
          )),
      (λ image.
          (are x bytes).1 (
            image.0,
            image.1,
            bytes_of first (Has state.cell one) is image.0 image.2,
            bytes_of second (Has state.cell other) also image.1 image.3,
            accepted first (Has state.cell one) is image.0 image.2,
            accepted second (Has state.cell other) also image.1 image.3,
            image.4,
          )),
    ))

-- The paths of URLs of the server's own, where all texts are such.
pub own_images : (caller : Caller) (state : AbsState) (own : AbsText) (texts made : Automaton)
    → IsSetOf (set_in texts) (Has state.cell own)
    → ((x : List ℕ) → Has state.cell own x → is_some (own_path caller x) ≡ true)
    → AcceptsOnly (λ x. (y : List ℕ) × IsText y × (accepts texts y ≡ true) × (own_path caller y ≡ Some x))
    made
    → IsSetOf (set_in made) (Image state (λ text also. unwrap_or (own_path caller text) []) own own)
own_images caller state own texts made is within are =
    set_of_bytes (accepts made) (Image state (λ text also. unwrap_or (own_path caller text) []) own own)
    (λ x image. own_text caller image.0 x (bytes_of texts (Has state.cell own) is image.0 image.2) (found x image))
    (λ x bytes. (
      (λ in_made.
          let of = (are x bytes).0 in_made in
          let has = there texts (Has state.cell own) is of.0 of.1 of.2 in
          (of.0, of.0, has, has, sym (ap (λ (path : Option (List ℕ)). unwrap_or path []) of.3))),
      (λ image.
          (are x bytes).1 (
            image.0,
            bytes_of texts (Has state.cell own) is image.0 image.2,
            accepted texts (Has state.cell own) is image.0 image.2,
            found x image,
          )),
    ))
  where
    some_of : (path : Option (List ℕ)) (x : List ℕ) → is_some path ≡ true → x ≡ unwrap_or path []
        → path ≡ Some x
    some_of None x some is = absurd (let none = some in cc)
    some_of (Some path) x some is = ap Some (sym is)

    found : (x : List ℕ) (image : Image state (λ text also. unwrap_or (own_path caller text) []) own own x)
        → own_path caller image.0 ≡ Some x
    found x image = some_of (own_path caller image.0) x (within image.0 image.2) image.4
