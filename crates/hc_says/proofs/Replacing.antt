-- A text with its variables replaced, chunk by chunk: chunks end at the bytes that no name has.
use Rattle.std.proofs.Common.{◌≡◌, ℕ, zero, suc, ◌+◌, ◌<◌, ◌==◌, List, [], ◌∷◌, ◌++◌}
use Rattle.std.proofs.Common.{length, take, drop, get_or, position, nat_lt, Bool, true, false, ◌&&◌, cond, Option}
use Rattle.std.proofs.Common.{Some, None, refl, ap, sym, ◌∙◌, append_assoc, arith}
use Rattle.std.specs.List.{list_any, position_or_len}
use mathlib.Core.Logic.{inl, inr}
use Rattle.std.specs.Option.{option_map}
use Prim.Native.Nat.compare
use Rattle.std.proofs.Math.Numerals.{one-add}
use Rattle.std.proofs.lemmas.Bool.{or_parts, or_cases, and_parts, eqb-true, lt-ltb}
use Rattle.std.proofs.lemmas.List.{length-append, append-nil, drop_more, take_more, take-append-drop}
use Rattle.std.proofs.lemmas.List.Quantifiers.{position-Some}
use Rattle.hc_base.specs.Bytes.{brace_close, brace_open, colon, dollar}
use Rattle.hc_says.specs.Variables.{ends_name, name_in_braces, replaced, replaced_behind, stands_for, variable_at}
use Rattle.hc_says.specs.VariablesView.{begins_variable, braced}

-- No byte ends a name.
abbrev pub HasNoEnd : List ℕ → Type 0
HasNoEnd text = list_any ends_name text ≡ false

name_up_to : (name rest : List ℕ) → HasNoEnd name → name_in_braces (name ++ brace_close ∷ rest) ≡ Some name
name_up_to [] rest h = refl
name_up_to (b ∷ bs) rest h =
    let p = or_parts (ends_name b) (list_any ends_name bs) h in
    let e = or_parts (b == colon) (b == brace_close) p.0 in
    rw (e.1, e.0) (ap (option_map (λ name. b ∷ name)) (name_up_to bs rest p.1))

no_name : (name rest : List ℕ) → HasNoEnd name → name_in_braces rest ≡ None → name_in_braces (name ++ rest)
    ≡ None
no_name [] rest h none = none
no_name (b ∷ bs) rest h none =
    let p = or_parts (ends_name b) (list_any ends_name bs) h in
    let e = or_parts (b == colon) (b == brace_close) p.0 in
    rw (e.1, e.0) (ap (option_map (λ name. b ∷ name)) (no_name bs rest p.1 none))

passed_all : (value : List ℕ → Option (List ℕ)) (passed rest : List ℕ)
    → replaced_behind value (length passed) (passed ++ rest) ≡ replaced value rest
passed_all value [] rest = refl
passed_all value (b ∷ bs) rest = passed_all value bs rest

module _ (value : List ℕ → Option (List ℕ)) where
  plain_byte : (b : ℕ) (bs : List ℕ) → variable_at b bs ≡ None → replaced value (b ∷ bs)
      ≡ b ∷ replaced value bs
  plain_byte b bs e = rw (e, replaced_behind) refl

  variable_byte : (b : ℕ) (bs name : List ℕ) → variable_at b bs ≡ Some name → replaced value (b ∷ bs)
      ≡ stands_for value name ++ replaced_behind value (length name + 2) bs
  variable_byte b bs name e = rw (e, replaced_behind) refl

  no_variable : (b : ℕ) (bs : List ℕ) → (b == dollar) ≡ false → variable_at b bs ≡ None
  no_variable b [] e = refl
  no_variable b (c ∷ bs) e = rw e refl

  -- A byte that begins no variable, or one that no `}` closes, stays.
  stays : (b c : ℕ) (bs : List ℕ) (t : Bool) → ((b == dollar) && (c == brace_open)) ≡ t
      → (t ≡ true → name_in_braces bs ≡ None) → replaced value (b ∷ c ∷ bs)
      ≡ b ∷ replaced value (c ∷ bs)
  stays b c bs true e none = plain_byte b (c ∷ bs) (rw e (none refl))
  stays b c bs false e none = plain_byte b (c ∷ bs) (rw e refl)

  -- Without an end of a name nothing is replaced.
  pub replaced_open : (text : List ℕ) → HasNoEnd text → replaced value text ≡ text
  replaced_open [] h = refl
  replaced_open (b ∷ []) h = refl
  replaced_open (b ∷ c ∷ bs) h =
      let p = or_parts (ends_name b) (list_any ends_name (c ∷ bs)) h in
      let q = or_parts (ends_name c) (list_any ends_name bs) p.1 in
      let none : name_in_braces bs ≡ None = rw (← append-nil bs) (no_name bs [] q.1 refl) in
      stays b c bs ((b == dollar) && (c == brace_open)) refl (λ _. none)
      ∙ ap (λ made. b ∷ made) (replaced_open (c ∷ bs) p.1)

  -- A colon ends what may be a name.
  pub replaced_colon : (front rest : List ℕ) → HasNoEnd front → replaced value (front ++ colon ∷ rest)
      ≡ (front ++ colon ∷ []) ++ replaced value rest
  replaced_colon [] rest h = plain_byte colon rest (no_variable colon rest refl)
  replaced_colon (b ∷ []) rest h =
      stays b colon rest ((b == dollar) && (colon == brace_open)) refl
      (λ e. absurd (let p = (and_parts (b == dollar) (colon == brace_open) e).1 in cc))
      ∙ ap (λ made. b ∷ made) (replaced_colon [] rest refl)
  replaced_colon (b ∷ c ∷ bs) rest h =
      let p = or_parts (ends_name b) (list_any ends_name (c ∷ bs)) h in
      let q = or_parts (ends_name c) (list_any ends_name bs) p.1 in
      stays b c (bs ++ colon ∷ rest) ((b == dollar) && (c == brace_open)) refl
      (λ _. no_name bs (colon ∷ rest) q.1 refl)
      ∙ ap (λ made. b ∷ made) (replaced_colon (c ∷ bs) rest p.1)

  close_here : (b c : ℕ) (bs rest : List ℕ) (t : Bool) → ((b == dollar) && (c == brace_open)) ≡ t
      → name_in_braces (bs ++ brace_close ∷ rest) ≡ Some bs
      → replaced value (c ∷ bs ++ brace_close ∷ rest) ≡ braced value (c ∷ bs) ++ replaced value rest
      → replaced value (b ∷ c ∷ bs ++ brace_close ∷ rest) ≡ braced value (b ∷ c ∷ bs)
      ++ replaced value rest
  close_here b c bs rest true e named more =
      let at : variable_at b (c ∷ bs ++ brace_close ∷ rest) ≡ Some bs = rw e named in
      let behind : replaced_behind value (length bs + 2) (c ∷ bs ++ brace_close ∷ rest) ≡ replaced value rest =
      (let len : length (c ∷ bs ++ brace_close ∷ []) ≡ length bs + 2 =
      omega (arith, length-append bs (brace_close ∷ [])) in
      rw (← len) (ap (λ text. replaced_behind value (length (c ∷ bs ++ brace_close ∷ [])) (c ∷ text))
      (sym (append_assoc bs (brace_close ∷ []) rest)) ∙ passed_all value (c ∷ bs ++ brace_close ∷ [])
      rest)) in
      variable_byte b (c ∷ bs ++ brace_close ∷ rest) bs at ∙ (rw (e, behind) refl)
  close_here b c bs rest false e named more =
      plain_byte b (c ∷ bs ++ brace_close ∷ rest) (rw e refl) ∙ (rw (e, more) refl)

  -- A `}` closes the variable that the first `${` before it begins.
  pub replaced_braced : (front rest : List ℕ) → HasNoEnd front → replaced value (front ++ brace_close ∷ rest)
      ≡ braced value front ++ replaced value rest
  replaced_braced [] rest h = plain_byte brace_close rest (no_variable brace_close rest refl)
  replaced_braced (b ∷ []) rest h =
      stays b brace_close rest ((b == dollar) && (brace_close == brace_open)) refl
      (λ e. absurd (let p = (and_parts (b == dollar) (brace_close == brace_open) e).1 in cc))
      ∙ ap (λ made. b ∷ made) (replaced_braced [] rest refl)
  replaced_braced (b ∷ c ∷ bs) rest h =
      let p = or_parts (ends_name b) (list_any ends_name (c ∷ bs)) h in
      let q = or_parts (ends_name c) (list_any ends_name bs) p.1 in
      close_here b c bs rest ((b == dollar) && (c == brace_open)) refl (name_up_to bs rest q.1)
      (replaced_braced (c ∷ bs) rest p.1)

-- ---- the first byte that ends a name

no_end_before : (text : List ℕ) (end : ℕ) → ((k : ℕ) → k < end → ends_name (get_or text k 0) ≡ false)
    → HasNoEnd (take end text)
no_end_before text zero h = refl
no_end_before [] (suc end) h = refl
no_end_before (b ∷ bs) (suc end) h =
    let here : ends_name b ≡ false = h 0 (omega arith) in
    rw here (no_end_before bs end (λ k l. h (suc k) (omega arith)))

abbrev pub chunk_of : (List ℕ → Option (List ℕ)) → List ℕ → ℕ → List ℕ
chunk_of value text end = cond (get_or text end 0 == brace_close) (braced value (take end text))
    (take end text ++ colon ∷ [])

sign_cases : (value : List ℕ → Option (List ℕ)) (front rest : List ℕ) (sign : ℕ) (t : Bool)
    → (sign == brace_close) ≡ t → ends_name sign ≡ true → HasNoEnd front
    → replaced value (front ++ sign ∷ rest) ≡ cond t (braced value front) (front ++ colon ∷ [])
    ++ replaced value rest
sign_cases value front rest sign true e ends h = rw (eqb-true sign brace_close e) (replaced_braced value front rest h)
sign_cases value front rest sign false e ends h =
    elim (or_cases (sign == colon) (sign == brace_close) ends) [
      | inl is ↦ rw (eqb-true sign colon is) (replaced_colon value front rest h)
      | inr is ↦ absurd (let no = e in cc)
    ]

pub replaced_chunk : (value : List ℕ → Option (List ℕ)) (text : List ℕ) (end : ℕ)
    → position ends_name text ≡ Some end → replaced value text ≡ chunk_of value text end ++ replaced value
    (drop (end + 1) text)
replaced_chunk value text end at =
    let p = position-Some ends_name text end 0 at in
    let cut : text ≡ take end text ++ get_or text end 0 ∷ drop (end + 1) text = sym (take-append-drop end text)
    ∙ ap (λ rest. take end text ++ rest) (drop_more text end 0 p.0) in
    ap (replaced value) cut ∙ sign_cases value (take end text) (drop (end + 1) text) (get_or text end 0)
    (get_or text end 0 == brace_close) refl p.1 (no_end_before text end p.2)

none_alike : (t : Bool) (n m : ℕ) → cond t (Some n) None ≡ None → cond t (Some m) None ≡ None
none_alike true n m e = absurd (let e = e in cc)
none_alike false n m e = refl

no_end_here : (b : ℕ) (bs : List ℕ) (t : Bool) → ends_name b ≡ t → position ends_name (b ∷ bs) ≡ None
    → (position ends_name bs ≡ None → HasNoEnd bs) → HasNoEnd (b ∷ bs)
no_end_here b bs true e none more =
    let here : nat_lt 0 (suc (length bs)) ≡ true = lt-ltb 0 (suc (length bs)) (omega arith) in
    let some = rw (e, here) at none in
    absurd (cc some)
no_end_here b bs false e none more =
    rw e (more (none_alike (nat_lt (position_or_len ends_name bs) (length bs)) _ (position_or_len ends_name bs)
    (rw (e, one-add, compare.suc-suc) at none)))

no_end_at_all : (text : List ℕ) → position ends_name text ≡ None → HasNoEnd text
no_end_at_all [] none = refl
no_end_at_all (b ∷ bs) none = no_end_here b bs (ends_name b) refl none (no_end_at_all bs)

pub replaced_none : (value : List ℕ → Option (List ℕ)) (text : List ℕ) → position ends_name text ≡ None
    → replaced value text ≡ text
replaced_none value text none = replaced_open value text (no_end_at_all text none)

-- ---- the first `${`

braced_plain : (value : List ℕ → Option (List ℕ)) (b : ℕ) (bs : List ℕ) → begins_variable (b ∷ bs)
    ≡ false → braced value (b ∷ bs) ≡ b ∷ braced value bs
braced_plain value b bs e = rw e refl

pub closed_more : (value : List ℕ → Option (List ℕ)) (text : List ℕ) (at : ℕ) → at < length text
    → begins_variable (drop at text) ≡ false
    → braced value text ≡ take at text ++ braced value (drop at text)
    → braced value text ≡ take (at + 1) text ++ braced value (drop (at + 1) text)
closed_more value text at l e so_far =
    let cut : drop at text ≡ get_or text at 0 ∷ drop (at + 1) text = drop_more text at 0 l in
    let plain : begins_variable (get_or text at 0 ∷ drop (at + 1) text) ≡ false = rw cut at e in
    so_far ∙ ap (λ rest. take at text ++ braced value rest) cut
    ∙ ap (λ rest. take at text ++ rest) (braced_plain value (get_or text at 0) (drop (at + 1) text) plain)
    ∙ sym (append_assoc (take at text) (get_or text at 0 ∷ []) (braced value (drop (at + 1) text)))
    ∙ ap (λ front. front ++ braced value (drop (at + 1) text)) (sym (take_more text at 0 l))
