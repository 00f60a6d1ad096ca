-- A text is its first component and what follows that.
use Rattle.hc_abs_pass.proofs.Common.{◌≡◌, ◌∙◌, ℕ, ◌+◌, List, [], ◌∷◌, ◌++◌, drop, Bool, true, false, not, ◌||◌}
use Rattle.hc_abs_pass.proofs.Common.{refl, sym, ap, subst, ◌⊎◌, inl, inr, true≢false}
use Rattle.std.proofs.Common.{cond, one-add, take}
use Rattle.std.proofs.lemmas.Bool.{and_from, and_parts}
use Rattle.std.specs.List.{list_any, position_or_len}
use Rattle.std.specs.Str.{bytes_eq}
use Rattle.hc_base.specs.Bytes.{slash}
use Rattle.hc_base.specs.Paths.{is_slash}
use Rattle.hc_dfa.specs.Automata.{Automaton, accepts}
use Rattle.hc_dfa.specs.Built.{Accepts, product_of}
use Rattle.hc_dfa.specs.Singles.{is_among}
use Rattle.hc_dfa.specs.Texts.{IsText}
use Rattle.hc_dfa.specs.declared.products.Keep.TheVariants.{Both}
use Rattle.hc_pat_lang.specs.Sets.{AcceptsOnly, IsJoined}
use Rattle.hc_rw_sets.proofs.Joins.{text_parts}
use Rattle.hc_rw_sets.specs.Cuts.{part_at}
use Rattle.hc_rw_sets.specs.Made.{MadeOf}
use Rattle.hc_rw_sets.specs.declared.cuts.Part.TheVariants.{Before, From}
use Rattle.hc_abs_pass.specs.Walks.{behind_component, component, is_empty}

-- It is what stands before the first slash; what follows it is the text from that slash on.
pub component_is : (text : List ℕ) → part_at slash Before text ≡ component text
component_is [] = refl
component_is (b ∷ text) = by (is_slash b) (component_is text)
  where
    by : (is : Bool) → part_at slash Before text ≡ component text
        → take (cond (not is) (1 + position_or_len is_slash text) 0) (b ∷ text)
        ≡ elim is [ true ↦ [] | false ↦ b ∷ component text ]
    by true later = refl
    by false later = rw one-add (ap (λ rest. b ∷ rest) later)

pub behind_is : (text : List ℕ) → part_at slash From text ≡ behind_component text
behind_is [] = refl
behind_is (b ∷ text) = by (is_slash b) (behind_is text)
  where
    by : (is : Bool) → part_at slash From text ≡ behind_component text
        → drop (cond (not is) (1 + position_or_len is_slash text) 0) (b ∷ text)
        ≡ elim is [ true ↦ b ∷ text | false ↦ behind_component text ]
    by true later = refl
    by false later = rw one-add later

pub or_false : (one other : Bool) → (one || other) ≡ false → (one ≡ false) × (other ≡ false)
or_false false other none = (refl, none)
or_false true other none = absurd (true≢false none)

pub both_ways : (one other : Bool) → (one ≡ true → other ≡ true) → (other ≡ true → one ≡ true) → one ≡ other
both_ways true other to from = sym (to refl)
both_ways false true to from = from refl
both_ways false false to from = refl

-- A text is cut behind its first component, which has no slash; what follows begins with one.
pub record IsCut (rest own tail : List ℕ) : Type 0 where
  pub whole : rest ≡ own ++ tail
  pub plain : list_any is_slash own ≡ false
  pub next : (tail ≡ []) ⊎ ((b : ℕ) × (more : List ℕ) × (tail ≡ b ∷ more) × (is_slash b ≡ true))

pub cut : (rest : List ℕ) → IsCut rest (component rest) (behind_component rest)
cut [] = record { whole = refl; plain = refl; next = inl refl }
cut (b ∷ bs) = by (is_slash b) refl (cut bs)
  where
    by : (is : Bool) → is_slash b ≡ is → IsCut bs (component bs) (behind_component bs)
        → IsCut (b ∷ bs) (elim is [ true ↦ [] | false ↦ b ∷ component bs ])
        (elim is [ true ↦ b ∷ bs | false ↦ behind_component bs ])
    by true is later = record { whole = refl; plain = refl; next = inr (b, bs, refl, is) }
    by false is later = record {
      whole = ap (λ rest. b ∷ rest) later.whole;
      plain = ap (λ first. first || list_any is_slash (component bs)) is ∙ later.plain;
      next = later.next;
    }

-- What follows a component has none.
pub tail_has_none : (rest : List ℕ) → is_empty (component (behind_component rest)) ≡ true
tail_has_none [] = refl
tail_has_none (b ∷ bs) = by (is_slash b) refl (tail_has_none bs)
  where
    by : (is : Bool) → is_slash b ≡ is → is_empty (component (behind_component bs)) ≡ true
        → is_empty (component (elim is [ true ↦ b ∷ bs | false ↦ behind_component bs ])) ≡ true
    by true is later = ap (λ is. is_empty (elim is [ true ↦ [] | false ↦ b ∷ component bs ])) is
    by false is later = later

pub none_left : (rest : List ℕ) → is_empty rest ≡ true → rest ≡ []
none_left [] is = refl
none_left (b ∷ rest) is = absurd (true≢false (sym is))

-- A text without a component is what follows it.
tail_whole : (rest : List ℕ) → is_empty (component rest) ≡ true → behind_component rest ≡ rest
tail_whole rest is =
    sym ((cut rest).whole ∙ ap (λ own. own ++ behind_component rest) (none_left (component rest) is))

-- A text that is put together so is cut there.
pub cut_at : (name tail : List ℕ) → list_any is_slash name ≡ false → is_empty (component tail) ≡ true
    → (component (name ++ tail) ≡ name) × (behind_component (name ++ tail) ≡ tail)
cut_at [] tail plain none = (none_left (component tail) none, tail_whole tail none)
cut_at (b ∷ name) tail plain none =
    by (is_slash b) (or_false _ _ plain).0 (cut_at name tail (or_false _ _ plain).1 none)
  where
    by : (is : Bool) → is ≡ false
        → (component (name ++ tail) ≡ name) × (behind_component (name ++ tail) ≡ tail)
        → ((elim is [ true ↦ [] | false ↦ b ∷ component (name ++ tail) ]) ≡ b ∷ name)
        × ((elim is [ true ↦ b ∷ name ++ tail | false ↦ behind_component (name ++ tail) ]) ≡ tail)
    by true is later = absurd (true≢false is)
    by false is later = (ap (λ rest. b ∷ rest) later.0, later.1)

pub parts_text : (rest : List ℕ) → IsText rest → IsText (component rest) × IsText (behind_component rest)
parts_text rest bytes = text_parts (component rest) (behind_component rest) (subst IsText (cut rest).whole bytes)

-- The texts whose first component is one of a list.
pub named_accept : (names : List (List ℕ)) (texts every plain own infos made : Automaton)
    → Accepts texts (is_among names) → Accepts every (λ text. true)
    → AcceptsOnly (MadeOf component (accepts every)) plain → Accepts own (product_of Both texts plain)
    → Accepts infos (λ text. is_empty (component text)) → AcceptsOnly (IsJoined (accepts own) (accepts infos)) made
    → Accepts made (λ text. list_any (bytes_eq (component text)) names)
named_accept names texts every plain own infos made are_texts are_every are_plain are_own are_infos are text bytes =
    both_ways _ _ to from
  where
    to : accepts made text ≡ true → list_any (bytes_eq (component text)) names ≡ true
    to accepted =
        let is = (are text bytes).0 accepted in
        let parts = text_parts is.front is.back (subst IsText (sym is.joined) bytes) in
        let both = and_parts _ _ (sym (are_own is.front parts.0) ∙ is.begins) in
        let of = (are_plain is.front parts.0).0 both.1 in
        let at = cut_at is.front is.back
        (subst (λ own. list_any is_slash own ≡ false) (sym of.3) (cut of.0).plain)
        (sym (are_infos is.back parts.1) ∙ is.goes_on) in
        ap (λ own. list_any (bytes_eq own) names) (ap component (sym is.joined) ∙ at.0)
        ∙ sym (are_texts is.front parts.0) ∙ both.0

    from : list_any (bytes_eq (component text)) names ≡ true → accepts made text ≡ true
    from among =
        let parts = parts_text text bytes in
        let own_cut = cut_at (component text) [] (cut text).plain refl in
        (are text bytes).1 (record {
          front = component text;
          back = behind_component text;
          begins = are_own (component text) parts.0
              ∙ and_from _ _ (are_texts (component text) parts.0 ∙ among)
              ((are_plain (component text) parts.0).1 (text, bytes, are_every text bytes, refl));
          goes_on = are_infos (behind_component text) parts.1 ∙ tail_has_none text;
          joined = sym (cut text).whole;
        })
