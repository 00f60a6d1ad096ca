-- What stands behind an origin.
use Rattle.std.proofs.Common.{◌≡◌, ℕ, ◌≤◌, inl, inr, List, [], ◌∷◌, ◌++◌, length, take, drop, map, Bool, true, false}
use Rattle.std.proofs.Common.{Option, Some, None, if◌then◌else◌, ◌==◌, ◌&&◌, nat_eq, refl, sym, ◌∙◌, ap, subst}
use Rattle.std.proofs.Common.{append_assoc, arith, drop_at, take_at, eqb-true, decimal}
use Rattle.std.proofs.lemmas.Bool.{and_from, and_parts, or_cases, or_left, or_right}
use Rattle.std.proofs.lemmas.Bool.Decides.{Decides-eqb, same_from_decides}
use Rattle.std.proofs.lemmas.List.{drop-append-le, length-map, length-take, take-append-drop, take-append-le}
use Rattle.std.proofs.lemmas.Slice.Eq.{starts_is}
use Rattle.std.proofs.Math.Seq.{drop-append_seam}
use Rattle.std.specs.Char.{to_ascii_lowercase}
use Rattle.std.specs.Cmp.Lexicographic.{as_long, bytes_decides}
use Rattle.std.specs.List.{starts_with}
use Rattle.std.specs.Option.{option_or}
use Rattle.std.specs.Str.{str_eq_ignore_ascii_case}
use Rattle.hc_base.specs.Bytes.{colon}
use Rattle.hc_dfa.specs.Automata.{Automaton, accepts}
use Rattle.hc_dfa.specs.Built.{Accepts}
use Rattle.hc_dfa.specs.Singles.{single}
use Rattle.hc_dfa.specs.Texts.{IsText}
use Rattle.hc_follow.specs.Next.{behind, behind_front, behind_port, ends_authority, front_of}
use Rattle.hc_follow.specs.declared.origin.Origin.{Origin}
use Rattle.hc_pat_lang.specs.Sets.{AcceptsOnly, IsJoined}
use Rattle.hc_rw_sets.proofs.Joins.{text_parts}
use Rattle.hc_rw_sets.specs.Roots.{begins_before}
use Rattle.hc_target.specs.Urls.{begins_without_case}
use Rattle.hc_template.specs.Variables.{default_port}
use Rattle.hc_sent.proofs.Texts.{cut_text}
use Rattle.hc_sent.specs.Origins.{is_port, is_root}
use Rattle.hc_sent.specs.Sets.{is_kind, is_rest}
use Rattle.hc_sent.specs.Ways.{if_behind}
use Rattle.hc_sent.specs.declared.rests.Kind.{Kind}

-- ---- a front

-- A front that may be written so, and what an authority may end before.
pub record Cut (fits : List ℕ → Bool) (text rest : List ℕ) : Type 0 where
  pub front : List ℕ
  pub is : fits front ≡ true
  pub ends : ends_authority rest ≡ true
  pub joined : front ++ rest ≡ text

front_cut : (front text rest : List ℕ) → behind_front front text ≡ Some rest
    → (front ++ rest ≡ text) × (ends_authority rest ≡ true)
front_cut front text rest = by (starts_with nat_eq text front && ends_authority (drop (length front) text)) refl
  where
    by : (v : Bool) → (starts_with nat_eq text front && ends_authority (drop (length front) text)) ≡ v
        → (if v then Some (drop (length front) text) else None) ≡ Some rest
        → (front ++ rest ≡ text) × (ends_authority rest ≡ true)
    by false is found = absurd (cc)
    by true is found =
        let parts = and_parts (starts_with nat_eq text front) _ is in
        let same : drop (length front) text ≡ rest = cc in (
          ap (λ rest. front ++ rest) (sym same) ∙ sym ((starts_is Decides-eqb text front _ refl).0 parts.0),
          subst (λ rest. ends_authority rest ≡ true) same parts.1,
        )

front_joined : (front rest : List ℕ) → ends_authority rest ≡ true → behind_front front (front ++ rest) ≡ Some rest
front_joined front rest ends =
    rw (
      (starts_is Decides-eqb (front ++ rest) front _ refl).1 rest refl,
      drop-append_seam front rest,
      ends,
    ) refl

same_length : (one other : List ℕ) → str_eq_ignore_ascii_case one other ≡ true → length other ≡ length one
same_length one other same =
    let long : length (map to_ascii_lowercase one) ≡ length (map to_ascii_lowercase other) =
    as_long nat_eq (map to_ascii_lowercase one) (map to_ascii_lowercase other) same in
    omega (arith, length-map one to_ascii_lowercase, length-map other to_ascii_lowercase)

-- ---- the port

-- What an authority may end before doesn't begin with a colon.
no_colon : (digits rest : List ℕ) → ends_authority rest ≡ true → behind_front (colon ∷ digits) rest ≡ None
no_colon digits [] ends = refl
no_colon digits (b ∷ rest) ends = by (nat_eq colon b) refl
  where
    by : (v : Bool) → nat_eq colon b ≡ v → behind_front (colon ∷ digits) (b ∷ rest) ≡ None
    by true is =
        let none = subst (λ b. ends_authority (b ∷ rest) ≡ true) (sym (eqb-true colon b is)) ends in absurd (cc)
    by false is = rw is refl

module _ (origin : Origin) where
  port_cut : (text rest : List ℕ) → behind_port origin text ≡ Some rest → Cut (is_port origin) text rest
  port_cut text rest = by_port (behind_front (colon ∷ decimal origin.port) text) refl
    where
      by_default : (v : Bool) → (origin.port == default_port origin.scheme) ≡ v
          → (if v then behind_front [] text else None) ≡ Some rest → Cut (is_port origin) text rest
      by_default false is found = absurd (cc)
      by_default true is found =
          let cut = front_cut [] text rest found in
          record {
            front = [];
            is = or_right (single (colon ∷ decimal origin.port) [])
                ((origin.port == default_port origin.scheme) && single [] [])
                (and_from (origin.port == default_port origin.scheme) (single [] []) is refl);
            ends = cut.1;
            joined = cut.0;
          }

      by_port : (found : Option (List ℕ)) → behind_front (colon ∷ decimal origin.port) text ≡ found
          → option_or found (if origin.port == default_port origin.scheme then behind_front [] text else None)
          ≡ Some rest
          → Cut (is_port origin) text rest
      by_port (Some own) is found =
          let cut = front_cut (colon ∷ decimal origin.port) text rest (is ∙ found) in
          record {
            front = colon ∷ decimal origin.port;
            is = or_left (single (colon ∷ decimal origin.port) (colon ∷ decimal origin.port)) _
                ((bytes_decides (colon ∷ decimal origin.port) (colon ∷ decimal origin.port)).1 refl);
            ends = cut.1;
            joined = cut.0;
          }
      by_port None is found = by_default (origin.port == default_port origin.scheme) refl found

  port_joined : (port rest : List ℕ) → is_port origin port ≡ true → ends_authority rest ≡ true
      → behind_port origin (port ++ rest) ≡ Some rest
  port_joined port rest is ends =
      elim (or_cases (single (colon ∷ decimal origin.port) port) _ is) [
        | inl same ↦
            let text : port ≡ colon ∷ decimal origin.port = (bytes_decides port (colon ∷ decimal origin.port)).0 same in
            rw (text, front_joined (colon ∷ decimal origin.port) rest ends) refl
        | inr plain ↦
            let parts = and_parts (origin.port == default_port origin.scheme) (single [] port) plain in
            let text : port ≡ [] = (bytes_decides port []).0 parts.1 in
            rw (text, no_colon (decimal origin.port) rest ends, parts.0, front_joined [] rest ends) refl
      ]

  -- ---- the origin

  pub behind_cut : (text rest : List ℕ) → behind origin text ≡ Some rest → Cut (is_root origin) text rest
  behind_cut text rest = by (begins_without_case (front_of origin) text) refl
    where
      by : (v : Bool) → begins_without_case (front_of origin) text ≡ v
          → (if v then behind_port origin (drop (length (front_of origin)) text) else None) ≡ Some rest
          → Cut (is_root origin) text rest
      by false is found = absurd (cc)
      by true is found =
          let count : ℕ = length (front_of origin) in
          let cut = port_cut (drop count text) rest found in
          let long : length (take count text) ≡ count = same_length (front_of origin) (take count text) is in
          record {
            front = take count text ++ cut.front;
            is = rw (
              take_at (take count text) cut.front count long,
              drop_at (take count text) cut.front count long,
            )
                (and_from _ _ is cut.is);
            ends = cut.ends;
            joined = append_assoc (take count text) cut.front rest ∙ ap (λ rest. take count text ++ rest) cut.joined
                ∙ take-append-drop count text;
          }

  pub behind_joined : (root rest : List ℕ) → is_root origin root ≡ true → ends_authority rest ≡ true
      → behind origin (root ++ rest) ≡ Some rest
  behind_joined root rest is ends =
      let count : ℕ = length (front_of origin) in
      let parts = and_parts (begins_without_case (front_of origin) root) _ is in
      let long : count ≤ length root =
      omega (arith, same_length (front_of origin) (take count root) parts.0, length-take count root) in
      rw (
        take-append-le count root rest long,
        parts.0,
        drop-append-le count root rest long,
        port_joined (drop count root) rest parts.1 ends,
      ) refl

-- ---- the sets

pub roots_accept : (origin : Origin) (ports made : Automaton) → Accepts ports (is_port origin)
    → Accepts made (begins_before (front_of origin) ports) → Accepts made (is_root origin)
roots_accept origin ports made of_ports begun text bytes =
    let count : ℕ = length (front_of origin) in
    begun text bytes
    ∙ ap (λ v. begins_without_case (front_of origin) text && v)
    (of_ports (drop count text) (cut_text count text bytes).1)

found_some : (test : List ℕ → Bool) (found : Option (List ℕ)) → if_behind test found ≡ true
    → (rest : List ℕ) × (found ≡ Some rest) × (test rest ≡ true)
found_some test None is = absurd (cc)
found_some test (Some rest) is = (rest, refl, is)

pub behind_accepts : (origin : Origin) (kind : Kind) (roots rests made : Automaton) → Accepts roots (is_root origin)
    → Accepts rests (is_rest kind) → AcceptsOnly (IsJoined (accepts roots) (accepts rests)) made
    → Accepts made (λ text. if_behind (is_kind kind) (behind origin text))
behind_accepts origin kind roots rests made of_roots of_rests only text bytes =
    same_from_decides (accepts made text) (if_behind (is_kind kind) (behind origin text)) (only text bytes)
    (split, joined)
  where
    split : if_behind (is_kind kind) (behind origin text) ≡ true → IsJoined (accepts roots) (accepts rests) text
    split is =
        let found = found_some (is_kind kind) (behind origin text) is in
        let cut = behind_cut origin text found.0 found.1 in
        let parts = text_parts cut.front found.0 (subst IsText (sym cut.joined) bytes) in
        record {
          front = cut.front;
          back = found.0;
          begins = of_roots cut.front parts.0 ∙ cut.is;
          goes_on = of_rests found.0 parts.1 ∙ and_from _ _ cut.ends found.2;
          joined = cut.joined;
        }

    joined : IsJoined (accepts roots) (accepts rests) text → if_behind (is_kind kind) (behind origin text) ≡ true
    joined is =
        let parts = text_parts is.front is.back (subst IsText (sym is.joined) bytes) in
        let root = sym (of_roots is.front parts.0) ∙ is.begins in
        let rest = and_parts (ends_authority is.back) _ (sym (of_rests is.back parts.1) ∙ is.goes_on) in
        rw (← is.joined, behind_joined origin is.front is.back root rest.0) rest.1
