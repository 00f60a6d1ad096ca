-- URLs of the server's own are a root and what may stand behind it.
use Rattle.std.proofs.Common.{◌≡◌, ℕ, suc, ◌+◌, ◌≤◌, ◌⊎◌, inl, inr, List, [], ◌∷◌, ◌++◌, length, take, drop, map, Bool}
use Rattle.std.proofs.Common.{true, false, not, refl, sym, ◌∙◌, ap, subst, arith, ◌==◌, ◌&&◌, ◌||◌, nat_eq, append_assoc}
use Rattle.std.proofs.Common.{Option, Some, None, if◌then◌else◌, eqb-true, codes, IsTrue, take_at, drop_at}
use Rattle.std.proofs.lemmas.Bool.{and_from, and_parts, both_ways, false_from_ne_true, not_from_false, not-true, or_cases}
use Rattle.std.proofs.lemmas.Bool.{or_left, or_parts, or_right}
use Rattle.std.proofs.lemmas.Bool.Decides.{nat_tests, same_from_decides}
use Rattle.std.proofs.lemmas.List.{drop-append-le, length-map, length-take, length-take-le, take-append-drop}
use Rattle.std.proofs.lemmas.List.{take-append-le}
use Rattle.std.proofs.lemmas.List.Folds.{list_any-append}
use Rattle.std.proofs.lemmas.Slice.Eq.{bytes_eq-Decides}
use Rattle.std.specs.Char.{is_digit, to_ascii_lowercase}
use Rattle.std.specs.Cmp.{nat_eq_equiv}
use Rattle.std.specs.Cmp.Lexicographic.{as_long}
use Rattle.std.specs.List.{before_first, list_all, list_any, prefix_len, starts_with}
use Rattle.std.specs.Prelude.{is_some}
use Rattle.std.specs.Str.{bytes_eq, str_eq_ignore_ascii_case}
use Rattle.hc_addr.specs.Numbers.{at_most, decimal_of, is_decimal}
use Rattle.hc_addr.specs.declared.sizes.TheConstants.{HIGHEST_PORT}
use Rattle.hc_base.specs.Bytes.{colon, slash}
use Rattle.hc_base.specs.Paths.{is_slash}
use Rattle.hc_dfa.specs.Automata.{Automaton, accepts}
use Rattle.hc_dfa.specs.Built.{Accepts, product_of}
use Rattle.hc_dfa.specs.Singles.{single}
use Rattle.hc_dfa.specs.Texts.{IsText}
use Rattle.hc_dfa.specs.declared.products.Keep.TheVariants.{Both, Either}
use Rattle.hc_model.specs.declared.request.Caller.{Caller}
use Rattle.hc_model.specs.declared.request.Scheme.{Scheme}
use Rattle.hc_pat_lang.specs.Sets.{AcceptsOnly, IsJoined, IsRest}
use Rattle.hc_rw_eval.specs.Conditions.{is_text}
use Rattle.hc_rw_eval.specs.Locations.{is_number, is_own, is_port, or_slash, own_front, own_path, path_behind}
use Rattle.hc_rw_sets.specs.Made.{MadeOf}
use Rattle.hc_rw_sets.specs.Roots.{begins_before, is_behind, is_root}
use Rattle.hc_target.specs.Urls.{begins_without_case}

-- ---- bytes of parts

front_bytes : (front rest : List ℕ) → IsText (front ++ rest) → IsText front
front_bytes [] rest bytes = tt
front_bytes (b ∷ front) rest bytes = (bytes.0, front_bytes front rest bytes.1)

rest_bytes : (front rest : List ℕ) → IsText (front ++ rest) → IsText rest
rest_bytes [] rest bytes = bytes
rest_bytes (b ∷ front) rest bytes = rest_bytes front rest bytes.1

joined_bytes : (front rest : List ℕ) → IsText front → IsText rest → IsText (front ++ rest)
joined_bytes [] rest first bytes = bytes
joined_bytes (b ∷ front) rest first bytes = (first.0, joined_bytes front rest first.1 bytes)

parts_bytes : (count : ℕ) (text : List ℕ) → IsText text → IsText (take count text) × IsText (drop count text)
parts_bytes count text bytes =
    let whole : IsText (take count text ++ drop count text) =
    subst IsText (sym (take-append-drop count text)) bytes in
    (front_bytes (take count text) (drop count text) whole, rest_bytes (take count text) (drop count text) whole)

-- ---- a text without case, and a set behind it

same_length : (one other : List ℕ) → str_eq_ignore_ascii_case one other ≡ true → length one ≡ length other
same_length one other same =
    let long : length (map to_ascii_lowercase one) ≡ length (map to_ascii_lowercase other) =
    as_long nat_eq (map to_ascii_lowercase one) (map to_ascii_lowercase other) same in
    omega (arith, length-map one to_ascii_lowercase, length-map other to_ascii_lowercase)

fits : (front text : List ℕ) → begins_without_case front text ≡ true → length front ≤ length text
fits front text begins =
    omega (arith, same_length front (take (length front) text) begins, length-take (length front) text)

pub begun_accepts : (front : List ℕ) (first rest made : Automaton) → Accepts first (is_text true front)
    → AcceptsOnly (IsJoined (accepts first) (accepts rest)) made → Accepts made (begins_before front rest)
begun_accepts front first rest made like only text bytes =
    same_from_decides (accepts made text) (begins_before front rest text) (only text bytes) (split, joined)
  where
    split : begins_before front rest text ≡ true → IsJoined (accepts first) (accepts rest) text
    split begun =
        let parts = and_parts (begins_without_case front text) (accepts rest (drop (length front) text)) begun in
        record {
          front = take (length front) text;
          back = drop (length front) text;
          begins = like (take (length front) text) (parts_bytes (length front) text bytes).0 ∙ parts.0;
          goes_on = parts.1;
          joined = take-append-drop (length front) text;
        }

    joined : IsJoined (accepts first) (accepts rest) text → begins_before front rest text ≡ true
    joined is =
        let whole : IsText (is.front ++ is.back) = subst IsText (sym is.joined) bytes in
        let same : is_text true front is.front ≡ true =
        sym (like is.front (front_bytes is.front is.back whole)) ∙ is.begins in
        let long : length is.front ≡ length front = sym (same_length front is.front same) in
        rw (← is.joined, take_at is.front is.back (length front) long, drop_at is.front is.back (length front) long)
        (and_from _ _ same is.goes_on)

-- ---- slashes

lower_slash : (b : ℕ) → is_slash (to_ascii_lowercase b) ≡ is_slash b
lower_slash b = grind (arith, nat_tests)

same_slashes : (one other : List ℕ) → str_eq_ignore_ascii_case one other ≡ true
    → list_any is_slash one ≡ list_any is_slash other
same_slashes [] [] same = refl
same_slashes [] (c ∷ other) same = absurd (cc)
same_slashes (b ∷ one) [] same = absurd (cc)
same_slashes (b ∷ one) (c ∷ other) same =
    let parts = and_parts _ _ same in
    let byte : is_slash b ≡ is_slash c =
    sym (lower_slash b) ∙ ap is_slash (eqb-true (to_ascii_lowercase b) (to_ascii_lowercase c) parts.0) ∙ lower_slash c in
    rw (byte, same_slashes one other parts.1) refl

digits_clear : (digits : List ℕ) → list_all (λ b. is_digit b 10) digits ≡ true → list_any is_slash digits ≡ false
digits_clear [] all = refl
digits_clear (b ∷ digits) all =
    let parts = and_parts (is_digit b 10) _ all in by parts.0 (is_slash b) refl (digits_clear digits parts.1)
  where
    by : is_digit b 10 ≡ true → (v : Bool) → is_slash b ≡ v → list_any is_slash digits ≡ false
        → (v || list_any is_slash digits) ≡ false
    by digit true is later = absurd (let none : is_digit slash 10 ≡ true = rw (eqb-true b slash is) at digit in cc)
    by digit false is later = later

number_clear : (port : ℕ) (digits : List ℕ) → is_number port (at_most HIGHEST_PORT (decimal_of digits)) ≡ true
    → list_any is_slash digits ≡ false
number_clear port digits is = by (is_decimal digits) refl
  where
    by : (v : Bool) → is_decimal digits ≡ v → list_any is_slash digits ≡ false
    by true decimal = digits_clear digits (and_parts _ _ decimal).1
    by false decimal =
        absurd (let none : is_number port (at_most HIGHEST_PORT None) ≡ true = rw decimal at is in cc)

port_clear : (scheme : Scheme) (port : ℕ) (text : List ℕ) → is_port scheme port text ≡ true
    → list_any is_slash text ≡ false
port_clear scheme port [] is = refl
port_clear scheme port (b ∷ digits) is =
    let parts = and_parts (b == colon) _ is in
    rw (eqb-true b colon parts.0) (number_clear port digits parts.1)

-- The slashes of an authority are those of its name, and those behind it.
own_slashes : (name authority : List ℕ) → begins_without_case name authority ≡ true
    → list_any is_slash authority ≡ (list_any is_slash name || list_any is_slash (drop (length name) authority))
own_slashes name authority begins =
    ap (list_any is_slash) (sym (take-append-drop (length name) authority))
    ∙ list_any-append is_slash (take (length name) authority) (drop (length name) authority)
    ∙ ap (λ v. v || list_any is_slash (drop (length name) authority))
    (sym (same_slashes name (take (length name) authority) begins))

own_clear : (caller : Caller) (authority : List ℕ) → list_any is_slash caller.name ≡ false
    → is_own caller authority ≡ (is_own caller authority && not (list_any is_slash authority))
own_clear caller authority none = by (is_own caller authority) refl
  where
    by : (v : Bool) → is_own caller authority ≡ v → v ≡ (v && not (list_any is_slash authority))
    by false is = refl
    by true is =
        let parts = and_parts (begins_without_case caller.name authority) _ is in
        rw (
          own_slashes caller.name authority parts.0,
          none,
          port_clear caller.request.scheme caller.request.port (drop (length caller.name) authority) parts.1,
        ) refl

-- With a name that holds a slash no text is a root.
pub no_root : (caller : Caller) (text : List ℕ) → list_any is_slash caller.name ≡ true → is_root caller text ≡ false
no_root caller text some = false_from_ne_true (is_root caller text) never
  where
    authority : List ℕ
    authority = drop (length (own_front caller.request.scheme)) text

    never : is_root caller text ≡ true → ⊥
    never root =
        let behind = and_parts (is_own caller authority) (not (list_any is_slash authority))
        (and_parts (begins_without_case (own_front caller.request.scheme) text)
        (is_own caller authority && not (list_any is_slash authority)) root).1 in
        let named = (and_parts (begins_without_case caller.name authority)
        (is_port caller.request.scheme caller.request.port (drop (length caller.name) authority)) behind.0).0 in
        let none : not (list_any is_slash authority) ≡ false =
        ap not (own_slashes caller.name authority named
        ∙ ap (λ v. v || list_any is_slash (drop (length caller.name) authority)) some) in
        both_ways (not (list_any is_slash authority)) none behind.1

pub root_accepts : (caller : Caller) (ports authorities made : Automaton) → list_any is_slash caller.name ≡ false
    → Accepts ports (is_port caller.request.scheme caller.request.port)
    → Accepts authorities (begins_before caller.name ports)
    → Accepts made (begins_before (own_front caller.request.scheme) authorities) → Accepts made (is_root caller)
root_accepts caller ports authorities made clear by_port by_name by_front text bytes =
    let front : ℕ = length (own_front caller.request.scheme) in
    let authority : List ℕ = drop front text in
    let inner : IsText authority = (parts_bytes front text bytes).1 in
    let port : IsText (drop (length caller.name) authority) = (parts_bytes (length caller.name) authority inner).1 in
    let own : accepts authorities authority ≡ is_own caller authority =
    by_name authority inner
    ∙ ap (λ v. begins_without_case caller.name authority && v) (by_port (drop (length caller.name) authority) port) in
    by_front text bytes
    ∙ ap (λ v. begins_without_case (own_front caller.request.scheme) text && v) (own ∙ own_clear caller authority clear)

-- ---- before the first slash

abbrev before : List ℕ → List ℕ
before text = before_first is_slash text

before_one : (b : ℕ) (text : List ℕ) (v : Bool) → is_slash b ≡ v
    → before (b ∷ text) ≡ (if v then [] else b ∷ before text)
before_one b text true is = rw is refl
before_one b text false is =
    let count : ℕ = prefix_len (λ b. not (is_slash b)) text in
    let one_more : 1 + count ≡ suc count = omega arith in
    rw is (ap (λ count. take count (b ∷ text)) one_more)

cut : (text : List ℕ)
    → (list_any is_slash (before text) ≡ false) × (is_behind (drop (length (before text)) text) ≡ true)
    × (before text ++ drop (length (before text)) text ≡ text)
cut [] = (refl, refl, refl)
cut (b ∷ text) = by (is_slash b) refl (cut text)
  where
    by : (v : Bool) → is_slash b ≡ v
        → (list_any is_slash (before text) ≡ false) × (is_behind (drop (length (before text)) text) ≡ true)
        × (before text ++ drop (length (before text)) text ≡ text)
        → (list_any is_slash (before (b ∷ text)) ≡ false)
        × (is_behind (drop (length (before (b ∷ text))) (b ∷ text)) ≡ true)
        × (before (b ∷ text) ++ drop (length (before (b ∷ text))) (b ∷ text) ≡ b ∷ text)
    by true is later = rw (before_one b text true is) (refl, is, refl)
    by false is later =
        rw (before_one b text false is) (rw is later.0, later.1, ap (λ text. b ∷ text) later.2)

before_joined : (front rest : List ℕ) → list_any is_slash front ≡ false → is_behind rest ≡ true
    → before (front ++ rest) ≡ front
before_joined [] [] clear behind = refl
before_joined [] (b ∷ rest) clear behind = before_one b rest true behind
before_joined (b ∷ front) rest clear behind =
    let parts = or_parts (is_slash b) (list_any is_slash front) clear in
    before_one b (front ++ rest) false parts.0 ∙ ap (λ text. b ∷ text) (before_joined front rest parts.1 behind)

-- ---- own URLs

pub own_joined : (caller : Caller) (root rest : List ℕ) → is_root caller root ≡ true → is_behind rest ≡ true
    → own_path caller (root ++ rest) ≡ Some (or_slash rest)
own_joined caller root rest is behind =
    let front : List ℕ = own_front caller.request.scheme in
    let parts = and_parts (begins_without_case front root) _ is in
    let own = and_parts (is_own caller (drop (length front) root)) _ parts.1 in
    let long : length front ≤ length root = fits front root parts.0 in
    let clear : list_any is_slash (drop (length front) root) ≡ false = not-true _ own.1 in
    rw (
      take-append-le (length front) root rest long,
      parts.0,
      drop-append-le (length front) root rest long,
      before_joined (drop (length front) root) rest clear behind,
      own.0,
      drop_at (drop (length front) root) rest _ refl,
    ) refl

-- A root, and what stands behind it.
record Splits (caller : Caller) (text path : List ℕ) : Type 0 where
  root : List ℕ
  rest : List ℕ
  is : is_root caller root ≡ true
  behind : is_behind rest ≡ true
  joined : root ++ rest ≡ text
  same : path ≡ or_slash rest

own_split : (caller : Caller) (text path : List ℕ) → own_path caller text ≡ Some path → Splits caller text path
own_split caller text path found = by_front (begins_without_case front text) refl found
  where
    front : List ℕ
    front = own_front caller.request.scheme

    rest : List ℕ
    rest = drop (length front) text

    by_own : (v : Bool) → begins_without_case front text ≡ true → is_own caller (before rest) ≡ v
        → (if v then Some (or_slash (drop (length (before rest)) rest)) else None) ≡ Some path
        → Splits caller text path
    by_own false begins own found = absurd (cc)
    by_own true begins own found =
        let parts = cut rest in
        let long : length (take (length front) text) ≡ length front =
        length-take-le (length front) text (fits front text begins) in
        record {
          root = take (length front) text ++ before rest;
          rest = drop (length (before rest)) rest;
          is = rw (
            take_at (take (length front) text) (before rest) (length front) long,
            drop_at (take (length front) text) (before rest) (length front) long,
          )
              (and_from _ _ begins (and_from _ _ own (not_from_false _ parts.0)));
          behind = parts.1;
          joined = append_assoc (take (length front) text) (before rest) _
              ∙ ap (λ rest. take (length front) text ++ rest) parts.2 ∙ take-append-drop (length front) text;
          same = cc;
        }

    by_front : (v : Bool) → begins_without_case front text ≡ v
        → (if v then path_behind caller rest else None) ≡ Some path → Splits caller text path
    by_front false begins found = absurd (cc)
    by_front true begins found = by_own (is_own caller (before rest)) begins refl found

some_there : {X : Type 0} (found : Option X) → is_some found ≡ true → (x : X) × (found ≡ Some x)
some_there None is = absurd (cc)
some_there (Some x) is = (x, refl)

pub urls_accept : (caller : Caller) (roots rests made : Automaton) → Accepts roots (is_root caller)
    → Accepts rests is_behind → AcceptsOnly (IsJoined (accepts roots) (accepts rests)) made
    → Accepts made (λ text. is_some (own_path caller text))
urls_accept caller roots rests made by_root by_rest only text bytes =
    same_from_decides (accepts made text) (is_some (own_path caller text)) (only text bytes) (split, joined)
  where
    split : is_some (own_path caller text) ≡ true → IsJoined (accepts roots) (accepts rests) text
    split is =
        let some = some_there (own_path caller text) is in
        let parts = own_split caller text some.0 some.1 in
        let whole : IsText (parts.root ++ parts.rest) = subst IsText (sym parts.joined) bytes in
        record {
          front = parts.root;
          back = parts.rest;
          begins = by_root parts.root (front_bytes parts.root parts.rest whole) ∙ parts.is;
          goes_on = by_rest parts.rest (rest_bytes parts.root parts.rest whole) ∙ parts.behind;
          joined = parts.joined;
        }

    joined : IsJoined (accepts roots) (accepts rests) text → is_some (own_path caller text) ≡ true
    joined is =
        let whole : IsText (is.front ++ is.back) = subst IsText (sym is.joined) bytes in
        let root = sym (by_root is.front (front_bytes is.front is.back whole)) ∙ is.begins in
        let rest = sym (by_rest is.back (rest_bytes is.front is.back whole)) ∙ is.goes_on in
        rw (← is.joined, own_joined caller is.front is.back root rest) refl

-- ---- their paths

pub paths_accepted : (caller : Caller) (set roots rest made : Automaton) → Accepts roots (is_root caller)
    → AcceptsOnly (IsRest (accepts set) (accepts roots)) rest
    → AcceptsOnly (MadeOf or_slash (λ text. accepts rest text && is_behind text)) made
    → AcceptsOnly (λ x. (y : List ℕ) × IsText y × IsTrue (accepts set y) × (own_path caller y ≡ Some x)) made
paths_accepted caller set roots rest made by_root only_rest only text bytes = (
  (λ accepted. from_made ((only text bytes).0 accepted)),
  (λ found. (only text bytes).1 (to_made found)),
)
  where
    from_made : MadeOf or_slash (λ text. accepts rest text && is_behind text) text
        → (y : List ℕ) × IsText y × IsTrue (accepts set y) × (own_path caller y ≡ Some text)
    from_made made =
        let parts = and_parts (accepts rest made.0) (is_behind made.0) made.2 in
        let left = (only_rest made.0 made.1).0 parts.0 in
        let root = sym (by_root left.front left.bytes) ∙ left.begins in (
          left.front ++ made.0,
          joined_bytes left.front made.0 left.bytes made.1,
          left.member,
          own_joined caller left.front made.0 root parts.1 ∙ ap Some (sym made.3),
        )

    to_made : ((y : List ℕ) × IsText y × IsTrue (accepts set y) × (own_path caller y ≡ Some text))
        → MadeOf or_slash (λ text. accepts rest text && is_behind text) text
    to_made found =
        let parts = own_split caller found.0 text found.3 in
        let whole : IsText (parts.root ++ parts.rest) = subst IsText (sym parts.joined) found.1 in
        let behind = rest_bytes parts.root parts.rest whole in
        let left : IsRest (accepts set) (accepts roots) parts.rest =
        record {
          front = parts.root;
          bytes = front_bytes parts.root parts.rest whole;
          begins = by_root parts.root (front_bytes parts.root parts.rest whole) ∙ parts.is;
          member = rw parts.joined found.2;
        } in
        (parts.rest, behind, and_from _ _ ((only_rest parts.rest behind).1 left) parts.behind, parts.same)

-- ---- a slash for nothing

slash_first : (b : ℕ) (text : List ℕ) → starts_with nat_eq (b ∷ text) (codes "/") ≡ is_slash b
slash_first b text = rw (nat_eq_equiv.symm slash b) (by (is_slash b))
  where
    by : (v : Bool) → (v && true) ≡ v
    by true = refl
    by false = refl

behind_is : (text : List ℕ) → (single [] text || starts_with nat_eq text (codes "/")) ≡ is_behind text
behind_is [] = refl
behind_is (b ∷ text) = slash_first b text

pub rests_accepted : (none paths made : Automaton) → Accepts none (single [])
    → Accepts paths (λ text. starts_with nat_eq text (codes "/")) → Accepts made (product_of Either none paths)
    → Accepts made is_behind
rests_accepted none paths made empty slashed both text bytes =
    both text bytes ∙ (λ i. empty text bytes i || slashed text bytes i) ∙ behind_is text

module _ (set slashes paths : Automaton)
    (slashed : Accepts slashes (λ text. starts_with nat_eq text (codes "/")))
    (both : Accepts paths (product_of Both set slashes)) where
  abbrev IsMade : List ℕ → Type 0
  IsMade text = MadeOf or_slash (λ text. accepts set text && is_behind text) text

  -- A text of the set that begins with a slash, or one slash for the empty text.
  abbrev IsSlashed : List ℕ → Type 0
  IsSlashed text = (accepts paths text ≡ true) ⊎ ((accepts set [] ≡ true) × (text ≡ codes "/"))

  path_is : (text : List ℕ) → IsText text
      → accepts paths text ≡ (accepts set text && starts_with nat_eq text (codes "/"))
  path_is text bytes = both text bytes ∙ ap (λ v. accepts set text && v) (slashed text bytes)

  to_slashed : (text y : List ℕ) → IsText y → (accepts set y && is_behind y) ≡ true → text ≡ or_slash y
      → IsSlashed text
  to_slashed text [] bytes member same = inr ((and_parts _ _ member).0, same)
  to_slashed text (b ∷ y) bytes member same =
      let parts = and_parts (accepts set (b ∷ y)) (is_slash b) member in
      inl (rw (same, path_is (b ∷ y) bytes) (and_from _ _ parts.0 (slash_first b y ∙ parts.1)))

  from_path : (text : List ℕ) → IsText text → accepts paths text ≡ true → IsMade text
  from_path [] bytes member =
      absurd (let none = (and_parts (accepts set []) _ (sym (path_is [] bytes) ∙ member)).1 in cc)
  from_path (b ∷ text) bytes member =
      let parts = and_parts (accepts set (b ∷ text)) _ (sym (path_is (b ∷ text) bytes) ∙ member) in
      (b ∷ text, bytes, and_from _ _ parts.0 (sym (slash_first b text) ∙ parts.1), refl)

  pub paths_slashed : accepts set [] ≡ false → AcceptsOnly IsMade paths
  paths_slashed none text bytes = (
    from_path text bytes,
    (λ made.
        elim (to_slashed text made.0 made.1 made.2 made.3) [
          | inl member ↦ member
          | inr one ↦ absurd (both_ways _ none one.0)
        ]),
  )

  pub all_slashed : (root made : Automaton) → accepts set [] ≡ true → Accepts root (single (codes "/"))
      → Accepts made (product_of Either paths root) → AcceptsOnly IsMade made
  all_slashed root made some one either text bytes = (from, to)
    where
      made_is : accepts made text ≡ (accepts paths text || bytes_eq text (codes "/"))
      made_is = either text bytes ∙ ap (λ v. accepts paths text || v) (one text bytes)

      from : accepts made text ≡ true → IsMade text
      from member =
          elim (or_cases _ _ (sym made_is ∙ member)) [
            | inl path ↦ from_path text bytes path
            | inr same ↦ ([], tt, and_from _ _ some refl, (bytes_eq-Decides text (codes "/")).0 same)
          ]

      to : IsMade text → accepts made text ≡ true
      to is =
          made_is ∙ elim (to_slashed text is.0 is.1 is.2 is.3) [
            | inl member ↦ or_left _ _ member
            | inr root ↦ or_right _ _ ((bytes_eq-Decides text (codes "/")).1 root.1)
          ]
