-- How a location begins: its origin ends once, and what stands behind it is the same in each text that goes on so.
use Rattle.std.proofs.Common.{◌≡◌, ℕ, zero, suc, ◌+◌, ◌<◌, ◌≤◌, ◌==◌, ◌/◌, ◌%◌, List, [], ◌∷◌, ◌++◌, length, take}
use Rattle.std.proofs.Common.{drop, map, Bool, true, false, if◌then◌else◌, nat_eq, Option, Some, None, refl, sym, ◌∙◌}
use Rattle.std.proofs.Common.{ap, arith, ◌&&◌, ◌||◌, append_assoc, codes, decimal, eqb-true, take_at, drop_at}
use Rattle.std.proofs.Common.{take-append-drop}
use Rattle.std.proofs.lemmas.Bool.{and_parts, cond_both, or_parts}
use Rattle.std.proofs.lemmas.Bool.Decides.{Decides-eqb, nat_tests}
use Rattle.std.proofs.lemmas.List.{length-map}
use Rattle.std.proofs.lemmas.List.Folds.{list_any-append}
use Rattle.std.proofs.lemmas.Slice.Eq.{starts_is}
use Rattle.std.specs.Char.{to_ascii_lowercase}
use Rattle.std.specs.Cmp.Lexicographic.{as_long}
use Rattle.std.specs.Fmt.{digit_glyph, digits, digits_onto}
use Rattle.std.specs.List.{list_all, list_any, starts_with}
use Rattle.std.specs.Option.{option_or}
use Rattle.std.specs.Str.{str_eq_ignore_ascii_case}
use Rattle.hc_base.specs.Bytes.{colon, is_question, percent}
use Rattle.hc_base.specs.Paths.{is_slash}
use Rattle.hc_follow.specs.Next.{behind, behind_front, behind_port, ends_authority, front_of, is_hash}
use Rattle.hc_follow.specs.declared.origin.Origin.{Origin}
use Rattle.hc_forms.specs.Forms.{is_host_byte}
use Rattle.hc_model.specs.declared.request.Scheme.{Scheme}
use Rattle.hc_model.specs.declared.request.Scheme.TheVariants.{Http, Https}
use Rattle.hc_target.specs.Urls.{begins_without_case}
use Rattle.hc_template.specs.Variables.{default_port, scheme_name}
use Rattle.hc_sent.specs.Ways.{has_question, if_behind}

-- ---- an origin as it is written

-- One for a slash, and more than the two of an origin for what it doesn't have.
abbrev weight : ℕ → ℕ
weight b = if is_slash b then 1 else (if is_question b || (is_hash b || (b == percent)) then 3 else 0)

abbrev pub weigh : List ℕ → ℕ
weigh [] = 0
weigh (b ∷ bs) = weight b + weigh bs

weigh_append : (one other : List ℕ) → weigh (one ++ other) ≡ weigh one + weigh other
weigh_append [] other = omega arith
weigh_append (b ∷ one) other = omega (arith, weigh_append one other)

host_weight : (host : List ℕ) → list_all is_host_byte host ≡ true → weigh host ≡ 0
host_weight [] all = refl
host_weight (b ∷ host) all =
    let parts = and_parts (is_host_byte b) _ all in omega (arith, byte b parts.0, host_weight host parts.1)
  where
    byte : (b : ℕ) → is_host_byte b ≡ true → weight b ≡ 0
    byte b is = grind (arith, nat_tests)

digits_weight : (k n : ℕ) (acc : List ℕ) → weigh acc ≡ 0 → weigh (digits_onto k 10 false n acc) ≡ 0
digits_weight zero n acc h = h
digits_weight (suc k) n acc h =
    let more : weigh (digit_glyph false (n % 10) ∷ acc) ≡ 0 = omega (arith, digit (n % 10) (omega arith)) in
    cond_both (n / 10 == 0) _ _ (λ text. weigh text ≡ 0) (λ _. more) (λ _. digits_weight k (n / 10) _ more)
  where
    digit : (d : ℕ) → d < 10 → weight (digit_glyph false d) ≡ 0
    digit d small = grind (arith, nat_tests)

decimal_weight : (n : ℕ) → weigh (decimal n) ≡ 0
unfolding digits
decimal_weight n = digits_weight 64 n [] refl

named_weight : (scheme : Scheme) (host : List ℕ) → list_all is_host_byte host ≡ true
    → weigh (scheme_name scheme ++ codes "://" ++ host) ≡ 2
named_weight Http host all = omega (arith, host_weight host all)
named_weight Https host all = omega (arith, host_weight host all)

same_weight : (one other : List ℕ) → str_eq_ignore_ascii_case one other ≡ true → weigh one ≡ weigh other
same_weight [] [] same = refl
same_weight [] (c ∷ other) same = absurd (cc)
same_weight (b ∷ one) [] same = absurd (cc)
same_weight (b ∷ one) (c ∷ other) same =
    let parts = and_parts _ _ same in
    let byte : weight b ≡ weight c =
    sym (lower b) ∙ ap weight (eqb-true (to_ascii_lowercase b) (to_ascii_lowercase c) parts.0) ∙ lower c in
    omega (arith, byte, same_weight one other parts.1)
  where
    lower : (b : ℕ) → weight (to_ascii_lowercase b) ≡ weight b
    lower b = grind (arith, nat_tests)

-- ---- what stands behind it

only_if : (v : Bool) (found : Option (List ℕ)) (rest : List ℕ) → (if v then found else None) ≡ Some rest
    → (v ≡ true) × (found ≡ Some rest)
only_if true found rest is = (refl, is)
only_if false found rest is = absurd (cc)

front_parts : (front text rest : List ℕ) → behind_front front text ≡ Some rest
    → (text ≡ front ++ rest) × (ends_authority rest ≡ true)
front_parts front text rest is =
    let h = only_if (starts_with nat_eq text front && ends_authority (drop (length front) text)) _ rest is in
    let parts = and_parts (starts_with nat_eq text front) _ h.0 in
    let left : drop (length front) text ≡ rest = cc (h.1) in (
      (starts_is Decides-eqb text front (starts_with nat_eq text front) refl).0 parts.0 ∙ ap (λ r. front ++ r) left,
      rw left at parts.1,
    )

front_made : (front rest : List ℕ) → ends_authority rest ≡ true → behind_front front (front ++ rest) ≡ Some rest
front_made front rest ends =
    rw (
      (starts_is Decides-eqb (front ++ rest) front (starts_with nat_eq (front ++ rest) front) refl).1 rest refl,
      drop_at front rest (length front) refl,
      ends,
    ) refl

no_port : (digits rest : List ℕ) → ends_authority rest ≡ true → behind_front (colon ∷ digits) rest ≡ None
no_port digits [] ends = refl
no_port digits (b ∷ bs) ends = rw (no_colon b bs ends) refl
  where
    no_colon : (b : ℕ) (bs : List ℕ) → ends_authority (b ∷ bs) ≡ true → (colon == b) ≡ false
    no_colon b bs ends = grind (arith, nat_tests)

-- A text begins with a front of this weight, and what stands behind is found behind the same front in each text.
pub record Begins (behind : List ℕ → Option (List ℕ)) (count : ℕ) (text rest : List ℕ) : Type 0 where
  pub front : List ℕ
  pub is : text ≡ front ++ rest
  pub weight_is : weigh front ≡ count
  pub ends : ends_authority rest ≡ true
  pub again : (other : List ℕ) → ends_authority other ≡ true → behind (front ++ other) ≡ Some other

port_begun : (origin : Origin) (text rest : List ℕ) → behind_port origin text ≡ Some rest
    → Begins (behind_port origin) 0 text rest
port_begun origin text rest is = by (behind_front (colon ∷ decimal origin.port) text) refl is
  where
    is_default : Bool
    is_default = origin.port == default_port origin.scheme

    by : (found : Option (List ℕ)) → behind_front (colon ∷ decimal origin.port) text ≡ found
        → option_or found (if is_default then behind_front [] text else None) ≡ Some rest
        → Begins (behind_port origin) 0 text rest
    by (Some r) found same =
        let parts = front_parts (colon ∷ decimal origin.port) text rest (found ∙ same) in
        record {
          front = colon ∷ decimal origin.port;
          is = parts.0;
          weight_is = omega (arith, decimal_weight origin.port);
          ends = parts.1;
          again = λ other ends. rw (front_made (colon ∷ decimal origin.port) other ends) refl;
        }
    by None found same =
        let h = only_if is_default (behind_front [] text) rest same in
        let parts = front_parts [] text rest h.1 in
        record {
          front = [];
          is = parts.0;
          weight_is = refl;
          ends = parts.1;
          again = λ other ends. rw (no_port (decimal origin.port) other ends, h.0) (front_made [] other ends);
        }

named_behind : (origin : Origin) (named rest : List ℕ) → str_eq_ignore_ascii_case (front_of origin) named ≡ true
    → behind origin (named ++ rest) ≡ behind_port origin rest
named_behind origin named rest same =
    let lower = as_long nat_eq (map to_ascii_lowercase (front_of origin)) (map to_ascii_lowercase named) same in
    let long : length named ≡ length (front_of origin) =
    omega (arith, length-map (front_of origin) to_ascii_lowercase, length-map named to_ascii_lowercase) in
    rw (take_at named rest _ long, drop_at named rest _ long, same) refl

pub begun : (origin : Origin) (text rest : List ℕ) → list_all is_host_byte origin.host ≡ true
    → behind origin text ≡ Some rest → Begins (behind origin) 2 text rest
begun origin text rest host is =
    let count = length (front_of origin) in
    let named = take count text in
    let h = only_if (begins_without_case (front_of origin) text) _ rest is in
    let more = port_begun origin (drop count text) rest h.1 in
    record {
      front = named ++ more.front;
      is = sym (take-append-drop count text) ∙ ap (λ r. named ++ r) more.is ∙ sym (append_assoc named more.front rest);
      weight_is = omega (
        arith,
        weigh_append named more.front,
        same_weight (front_of origin) named h.0,
        named_weight origin.scheme origin.host host,
        more.weight_is,
      );
      ends = more.ends;
      again = λ other ends. ap (behind origin) (append_assoc named more.front other)
          ∙ named_behind origin named (more.front ++ other) h.0 ∙ more.again other ends;
    }

-- ---- another text that goes on in the same way

first_weighs : (b : ℕ) (bs : List ℕ) → ends_authority (b ∷ bs) ≡ true → 0 < weight b
first_weighs b bs ends = grind (arith, nat_tests)

-- A text has one front alone that ends there.
pub one_front : (one other rest more : List ℕ) → one ++ rest ≡ other ++ more → weigh one ≡ weigh other
    → ends_authority rest ≡ true → ends_authority more ≡ true → one ≡ other
one_front [] [] rest more same weights ends also = refl
one_front [] (c ∷ other) rest more same weights ends also =
    absurd (omega (arith, first_weighs c (other ++ more) (ap ends_authority (sym same) ∙ ends)))
one_front (b ∷ one) [] rest more same weights ends also =
    absurd (omega (arith, first_weighs b (one ++ rest) (ap ends_authority same ∙ also)))
one_front (b ∷ one) (c ∷ other) rest more same weights ends also =
    let head : b ≡ c = cc in
    let tail : one ++ rest ≡ other ++ more = cc in
    cc (head, one_front one other rest more tail (omega (arith, ap weight head)) ends also)

-- A byte of an origin.
pub no_sign : (b : ℕ) (bs : List ℕ) → weigh (b ∷ bs) ≤ 2 → (is_question b ≡ false) × ((b == percent) ≡ false)
no_sign b bs light = sign b (omega arith)
  where
    sign : (b : ℕ) → weight b ≤ 2 → (is_question b ≡ false) × ((b == percent) ≡ false)
    sign b light = (grind (arith, nat_tests), grind (arith, nat_tests))

abbrev pub has_question_byte : List ℕ → Bool
has_question_byte text = list_any is_question text

pub none_in_front : (front : List ℕ) → weigh front ≤ 2 → has_question_byte front ≡ false
none_in_front [] light = refl
none_in_front (b ∷ front) light = rw ((no_sign b front light).0, none_in_front front (omega arith)) refl

-- A front of the text that has a `?` holds the whole origin.
split_behind : (text more front rest : List ℕ) → text ++ more ≡ front ++ rest → weigh front ≤ 2
    → has_question_byte text ≡ true
    → (left : List ℕ) × (text ≡ front ++ left) × (rest ≡ left ++ more) × (has_question_byte left ≡ true)
split_behind text more [] rest same light has = (text, refl, sym same, has)
split_behind [] more (b ∷ front) rest same light has = absurd (cc)
split_behind (a ∷ text) more (b ∷ front) rest same light has =
    let head : a ≡ b = cc in
    let tail : text ++ more ≡ front ++ rest = cc in
    let h = split_behind text more front rest tail (omega arith) (rw (head, (no_sign b front light).0) at has) in
    (h.0, (cc (head, h.1)), h.2, h.3)

left_ends : (left more other : List ℕ) → has_question_byte left ≡ true → ends_authority (left ++ more) ≡ true
    → ends_authority (left ++ other) ≡ true
left_ends [] more other has ends = absurd (cc)
left_ends (b ∷ left) more other has ends = ends

-- A front of the text that has a `?` fits the server as the text does, with whatever behind it.
pub behind_within : (origin : Origin) (text more other rest : List ℕ) → list_all is_host_byte origin.host ≡ true
    → behind origin (text ++ more) ≡ Some rest → has_question_byte text ≡ true
    → (left : List ℕ) × (has_question_byte left ≡ true) × (behind origin (text ++ other) ≡ Some (left ++ other))
behind_within origin text more other rest host is has =
    let h = begun origin (text ++ more) rest host is in
    let parts = split_behind text more h.front rest h.is (omega (arith, h.weight_is)) has in (
      parts.0,
      parts.3,
      ap (behind origin) (ap (λ t. t ++ other) parts.1 ∙ append_assoc h.front parts.0 other)
          ∙ h.again (parts.0 ++ other)
          (left_ends parts.0 more other parts.3 (ap ends_authority (sym parts.2) ∙ h.ends)),
    )

pub no_question : (origin : Origin) (text : List ℕ) → list_all is_host_byte origin.host ≡ true
    → has_question_byte text ≡ false → has_question origin text ≡ false
no_question origin text host none = by (behind origin text) refl
  where
    by : (found : Option (List ℕ)) → behind origin text ≡ found → if_behind (list_any is_question) found ≡ false
    by None is = refl
    by (Some rest) is =
        let h = begun origin text rest host is in
        (or_parts (has_question_byte h.front) (has_question_byte rest)
        (sym (list_any-append is_question h.front rest) ∙ ap has_question_byte (sym h.is) ∙ none)).1
