-- What is sent leads where it is found to lead, and is read there as what is found of it.
use Rattle.std.proofs.Common.{◌≡◌, ℕ, ◌⊎◌, inl, inr, List, [], ◌∷◌, ◌++◌, length, Bool, true, false, refl, sym, ◌∙◌}
use Rattle.std.proofs.Common.{ap, subst, arith, if◌then◌else◌, Option, Some, None, is_some, nat_le, ◌≤◌, take_all}
use Rattle.std.proofs.lemmas.Bool.{and_parts, or_parts, true_from_ne_false}
use Rattle.std.proofs.lemmas.Bool.Decides.{nat_tests}
use Rattle.std.proofs.lemmas.List.Folds.{list_all-append}
use Rattle.std.specs.List.{before_first, list_all, position_or_len}
use Rattle.hc_base.specs.Bytes.{slash}
use Rattle.hc_base.specs.Paths.{begins_with_slash, is_clean}
use Rattle.hc_follow.specs.Next.{behind, ends_authority, is_hash, slashed, target_in}
use Rattle.hc_follow.specs.declared.origin.Origin.{Origin}
use Rattle.hc_forms.specs.Forms.{is_host_byte, is_target_byte}
use Rattle.hc_target.specs.Segments.{is_normal, is_plain}
use Rattle.hc_target.specs.Targets.{found, read}
use Rattle.hc_target.proofs.Normal.{normal_kept}
use Rattle.hc_sent.specs.Parts.{Sent}
use Rattle.hc_sent.specs.Reading.{AreLedOn, AreNamed, AreReadBack, IsReadAs}
use Rattle.hc_sent.specs.Ways.{IsFirst, IsOpen, IsRest, MayAsk, fits_any, is_query}
use Rattle.hc_sent.specs.declared.parts.Part.{Part}
use Rattle.hc_sent.specs.declared.parts.TheConstants.{LONGEST_TARGET}
use Rattle.hc_sent.proofs.ReadFronts.{begun, has_question_byte, none_in_front, one_front, weigh}
use Rattle.hc_sent.proofs.ReadMarks.{AreFine, Mark, after, before as path_of, bytes, bytes_append, cut_slashed}
use Rattle.hc_sent.proofs.ReadMarks.{encoded, fine_behind, first_ends, led, slashed_encoded, writes}
use Rattle.hc_sent.proofs.ReadParts.{IsInside, marked}

-- ---- the target

slashed_begins : (text : List ℕ) → begins_with_slash (slashed text) ≡ true
slashed_begins text = by (begins_with_slash text) refl
  where
    by : (v : Bool) → begins_with_slash text ≡ v → begins_with_slash (if v then text else slash ∷ text) ≡ true
    by true is = is
    by false is = refl

no_hash : (text : List ℕ) → list_all is_target_byte text ≡ true → position_or_len is_hash text ≡ length text
no_hash [] all = refl
no_hash (b ∷ text) all =
    let parts = and_parts (is_target_byte b) _ all in
    rw (clear b parts.0) (let rest = no_hash text parts.1 in omega arith)
  where
    clear : (b : ℕ) → is_target_byte b ≡ true → is_hash b ≡ false
    clear b is = grind (arith, nat_tests)

slashed_all : (test : ℕ → Bool) (text : List ℕ) → list_all test (slashed text) ≡ true → list_all test text ≡ true
slashed_all test text is = by (begins_with_slash text) is
  where
    by : (v : Bool) → list_all test (if v then text else slash ∷ text) ≡ true → list_all test text ≡ true
    by true is = is
    by false is = (and_parts (test slash) _ is).1

-- Without a `#` all of it is the target.
whole_target : (rest : List ℕ) → list_all is_target_byte (slashed rest) ≡ true → target_in rest ≡ slashed rest
whole_target rest all =
    ap slashed (take_all _ rest (omega (arith, no_hash rest (slashed_all is_target_byte rest all))))

-- Where the bare text leads to the server, with a normal path.
read_as : (all : List Part) (before : List Origin) (origin : Origin) (marks : List Mark)
    → AreFine (IsOpen all before origin) false marks → IsRest all before origin (bytes marks)
    → is_normal (slashed (path_of (bytes marks))) ≡ true
    → nat_le (length (target_in (writes marks))) LONGEST_TARGET ≡ true → IsReadAs all before origin (writes marks)
read_as all before origin marks fine is_rest normal short =
    let path = slashed (path_of (bytes marks)) in
    let query = after (slashed (writes marks)) in
    let parts = and_parts (is_clean path) (list_all is_plain path) normal in
    let h = slashed_encoded (IsOpen all before origin) marks
    (encoded (IsOpen all before origin) marks fine (slashed_all is_plain (path_of (bytes marks)) parts.1)) in
    let cut = cut_slashed (bytes marks) in
    let target = whole_target (writes marks) h.target in
    record {
      target =
          rw (
            short,
            slashed_begins (before_first is_hash (writes marks)),
            ap (list_all is_target_byte) target,
            h.target,
          ) refl;
      path = path;
      query = query;
      read = ap read target
          ∙ (rw (h.no_bad, h.no_slash, h.decoded, cut.0, parts.1)
          (ap (λ place. found place query) (normal_kept path parts.0)));
      goes_to = ((bytes marks, is_rest, refl), normal);
      asks = (asks query h.query h.either cut.1, h.query);
    }
  where
    asks : {bare : List ℕ} (query : List ℕ) → is_query query ≡ true → IsOpen all before origin ⊎ (query ≡ bare)
        → bare ≡ after (bytes marks) → MayAsk all before origin query
    asks query is (inl some) same = inl (some, is)
    asks query is (inr same) bare = inr (bytes marks, is_rest, same ∙ bare)

-- ---- the server

-- Behind one front, the same servers fit.
module _ (origin : Origin) (front rest bare : List ℕ) (weight_is : weigh front ≡ 2) (ends : ends_authority rest ≡ true)
    (ended : ends_authority bare ≡ true) where
  none_fits : (other : Origin) → list_all is_host_byte other.host ≡ true
      → is_some (behind other (front ++ rest)) ≡ false → is_some (behind other (front ++ bare)) ≡ false
  none_fits other host none = by (behind other (front ++ bare)) refl
    where
      by : (fits : Option (List ℕ)) → behind other (front ++ bare) ≡ fits → is_some fits ≡ false
      by None is = refl
      by (Some left) is =
          let h = begun other (front ++ bare) left host is in
          let same = one_front front h.front bare left h.is (weight_is ∙ sym h.weight_is) ended h.ends in
          let fits : behind other (front ++ rest) ≡ Some rest =
          ap (λ f. behind other (f ++ rest)) same ∙ h.again rest ends in
          absurd (let never : true ≡ false = ap is_some (sym fits) ∙ none in cc)

  none_before : (before : List Origin) → list_all (λ own. list_all is_host_byte own.host) before ≡ true
      → fits_any before (front ++ rest) ≡ false → fits_any before (front ++ bare) ≡ false
  none_before [] named none = refl
  none_before (other ∷ before) named none =
      let names = and_parts (list_all is_host_byte other.host) _ named in
      let parts = or_parts (is_some (behind other (front ++ rest))) _ none in
      rw (none_fits other names.0 parts.0, none_before before names.1 parts.1) refl

-- What stands behind the origin in a location that is sent, as marks.
record IsSentTo (all : List Part) (before : List Origin) (origin : Origin) (rest : List ℕ) : Type 0 where
  marks : List Mark
  written : writes marks ≡ rest
  is_rest : IsRest all before origin (bytes marks)
  fine : IsInside all before origin → AreFine (IsOpen all before origin) false marks

sent_to : (all : List Part) (before : List Origin) (origin : Origin) (location rest : List ℕ)
    → AreNamed (before ++ origin ∷ []) → Sent all location → IsFirst before origin location rest
    → IsSentTo all before origin rest
sent_to all before origin location rest named sent first =
    let names = and_parts (list_all (λ own. list_all is_host_byte own.host) before) _
    (sym (list_all-append (λ own. list_all is_host_byte own.host) before (origin ∷ [])) ∙ named) in
    let host = (and_parts (list_all is_host_byte origin.host) true names.1).0 in
    let h = begun origin location rest host first.1 in
    let light : weigh h.front ≤ 2 = omega (arith, h.weight_is) in
    let sent_as = marked all before origin host all location sent in
    let parts = led sent_as.marks h.front rest (sent_as.written ∙ h.is) light in
    let ends : ends_authority (writes parts.left) ≡ true = ap ends_authority parts.goes_on ∙ h.ends in
    let ended = first_ends parts.left ends in
    let text : bytes sent_as.marks ≡ h.front ++ bytes parts.left =
    ap bytes parts.is ∙ bytes_append parts.lead parts.left ∙ ap (λ t. t ++ bytes parts.left) parts.begins in
    let bare_first : IsFirst before origin (bytes sent_as.marks) (bytes parts.left) = (
      ap (fits_any before) text
          ∙ none_before origin h.front rest (bytes parts.left) h.weight_is h.ends ended before names.0
          (ap (fits_any before) (sym h.is) ∙ first.0),
      ap (behind origin) text ∙ h.again (bytes parts.left) ended,
    ) in
    let Open = IsOpen all before origin in
    record {
      marks = parts.left;
      written = parts.goes_on;
      is_rest = (bytes sent_as.marks, sent_as.joined, bare_first);
      fine = λ inside.
          subst (λ v. AreFine Open v parts.left)
          (ap has_question_byte parts.begins ∙ none_in_front h.front light)
          (fine_behind Open false parts.lead parts.left
          (subst (AreFine Open false) parts.is
          (sent_as.fine inside [] [] (bytes parts.left) refl refl bare_first)));
    }

pub led_on : AreLedOn
led_on all before origin location rest named sent first =
    let h = sent_to all before origin location rest named sent first in (bytes h.marks, h.is_rest)

pub read_back : AreReadBack
read_back all before origin location rest named sent first inside short =
    let h = sent_to all before origin location rest named sent first in
    let path = slashed (path_of (bytes h.marks)) in
    subst (IsReadAs all before origin) h.written
    (read_as all before origin h.marks (h.fine (λ fails. inside (inr fails))) h.is_rest
    (true_from_ne_false (is_normal path) (λ not_normal.
    inside (inl (path, (bytes h.marks, h.is_rest, refl), not_normal))))
    (subst (λ r. nat_le (length (target_in r)) LONGEST_TARGET ≡ true) (sym h.written) short))
