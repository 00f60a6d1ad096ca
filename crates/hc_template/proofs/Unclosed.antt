-- Where no `}` stands, no name does, and no look-up.
use Rattle.std.proofs.Common.{◌≡◌, ℕ, zero, suc, ◌+◌, ◌-◌, ◌==◌, ◌||◌, List, [], ◌∷◌}
use Rattle.std.proofs.Common.{drop, length, Bool, true, false, Option, Some, None, cond, refl, sym, ap, ◌∙◌}
use Rattle.std.specs.Option.{option_map}
use Rattle.hc_base.specs.Bytes.{bar, brace_close, brace_open, percent}
use Rattle.hc_model.specs.declared.template.Piece.{Piece}
use Rattle.hc_template.specs.Fronts.{Alike, without_names}
use Rattle.hc_template.specs.MapNames.{map_name}
use Rattle.hc_template.specs.Reading.{Inner, Part, Sign, asked_in, asked_with, braced_name, byte, dollar_sign}
use Rattle.hc_template.specs.Reading.{ends_fallback, ends_key, fallback_behind, inner_behind, lookup_of, lookup_sign}
use Rattle.hc_template.specs.Reading.{name_up_to, named_lookup, no_lookup, percent_sign, piece, plain, read_behind}
use Rattle.hc_template.specs.Reading.{refused, sign_at, sign_inside, sign_with, with_inner, with_part}
use Rattle.hc_template.specs.declared.signs.Names.{Names}
use Rattle.hc_template.specs.declared.signs.Names.TheVariants.{Expression, NoName, Rewriting}
use Rattle.hc_template.specs.declared.signs.Signs.{Signs}

-- ---- no name behind

none_inside : (b : ℕ) (name : Option (List ℕ)) → option_map (λ bs. b ∷ bs) name ≡ None → name ≡ None
none_inside b None none = refl
none_inside b (Some bs) none = absurd (cc none)

none_behind : (b : ℕ) (bs : List ℕ) (t : Bool) → (b == brace_close) ≡ t → name_up_to (b ∷ bs) ≡ None
    → ((b == brace_close) ≡ false) × (name_up_to bs ≡ None)
none_behind b bs true e none = absurd (let some = rw e at none in cc some)
none_behind b bs false e none = (e, none_inside b (name_up_to bs) (rw e at none))

not_closing : (b : ℕ) (bs : List ℕ) → name_up_to (b ∷ bs) ≡ None → ((b == brace_close) ≡ false)
    × (name_up_to bs ≡ None)
not_closing b bs none = none_behind b bs (b == brace_close) refl none

none_dropped : (count : ℕ) (bs : List ℕ) → name_up_to bs ≡ None → name_up_to (drop count bs) ≡ None
none_dropped zero bs none = none
none_dropped (suc count) [] none = refl
none_dropped (suc count) (b ∷ bs) none = none_dropped count bs (not_closing b bs none).1

-- ---- no look-up

nothing_inside : (part : Part) → with_inner part None ≡ None
nothing_inside (byte b) = refl
nothing_inside (piece p) = refl
nothing_inside (refused broken) = refl

no_fallback : (signs : Signs) (passed : ℕ) (text : List ℕ) → name_up_to text ≡ None
    → inner_behind ends_fallback signs passed text ≡ None
no_fallback signs passed [] none = refl
no_fallback signs (suc passed) (b ∷ bs) none = no_fallback signs passed bs (not_closing b bs none).1
no_fallback signs zero (b ∷ bs) none =
    let behind = not_closing b bs none in
    let sign = sign_inside signs b bs in
    rw (behind.0, no_fallback signs (sign.length - 1) bs behind.1) (nothing_inside sign.part)

same_none : {A B : Type 0} (f g : A → B) (x : Option A) → option_map f x ≡ None → option_map g x ≡ None
same_none f g None none = refl
same_none f g (Some x) none = absurd (cc none)

other_key_at : (signs : Signs) (key other : List Piece) (b : ℕ) (bs : List ℕ) (t : Bool) → (b == bar) ≡ t
    → fallback_behind signs key (b ∷ bs) ≡ None → fallback_behind signs other (b ∷ bs) ≡ None
other_key_at signs key other b bs true e none = rw e (same_none (asked_with key) (asked_with other) _ (rw e at none))
other_key_at signs key other b bs false e none = absurd (let some = rw e at none in cc some)

other_key : (signs : Signs) (key other : List Piece) (bs : List ℕ) → fallback_behind signs key bs ≡ None
    → fallback_behind signs other bs ≡ None
other_key signs key other [] none = refl
other_key signs key other (b ∷ bs) none = other_key_at signs key other b bs (b == bar) refl none

still_none : (signs : Signs) (part : Part) (key : Option Inner) → asked_in signs key ≡ None
    → asked_in signs (with_inner part key) ≡ None
still_none signs (refused broken) key none = refl
still_none signs (byte b) None none = refl
still_none signs (byte b) (Some key) none = other_key signs key.pieces _ key.behind none
still_none signs (piece p) None none = refl
still_none signs (piece p) (Some key) none = other_key signs key.pieces _ key.behind none

no_asked_at : (signs : Signs) (b : ℕ) (bs : List ℕ) (part : Part) (more : Option Inner) (t : Bool)
    → (b == bar) ≡ t → name_up_to bs ≡ None
    → asked_in signs more ≡ None
    → asked_in signs (cond (t || false) (Some (record { pieces = []; behind = b ∷ bs })) (with_inner part more))
    ≡ None
no_asked_at signs b bs part more true e none inside = rw (e, no_fallback signs 0 bs none) refl
no_asked_at signs b bs part more false e none inside = still_none signs part more inside

no_asked : (signs : Signs) (passed : ℕ) (text : List ℕ) → name_up_to text ≡ None
    → asked_in signs (inner_behind ends_key signs passed text) ≡ None
no_asked signs passed [] none = refl
no_asked signs (suc passed) (b ∷ bs) none = no_asked signs passed bs (not_closing b bs none).1
no_asked signs zero (b ∷ bs) none =
    let behind = not_closing b bs none in
    let sign = sign_inside signs b bs in
    rw behind.0
    (no_asked_at signs b bs sign.part _ (b == bar) refl behind.1 (no_asked signs (sign.length - 1) bs behind.1))

no_lookup_named : (signs : Signs) (bs : List ℕ) (name : Option (List ℕ)) → name_up_to bs ≡ None
    → named_lookup signs bs name ≡ no_lookup bs
no_lookup_named signs bs None none = refl
no_lookup_named signs bs (Some name) none =
    ap (lookup_of bs name) (no_asked signs 0 (drop (length name + 1) bs) (none_dropped (length name + 1) bs none))

no_lookup_here : (signs : Signs) (bs : List ℕ) → name_up_to bs ≡ None → lookup_sign signs bs ≡ no_lookup bs
no_lookup_here signs bs none = no_lookup_named signs bs (map_name bs) none

-- ---- signs without names

no_name_here : (names : Names) (bs : List ℕ) → name_up_to bs ≡ None → braced_name names bs ≡ plain percent
no_name_here NoName bs none = refl
no_name_here Expression bs none = rw none refl
no_name_here Rewriting bs none = rw none refl

percent_alike : (signs : Signs) (bs : List ℕ) → name_up_to bs ≡ None
    → percent_sign signs bs ≡ percent_sign (without_names signs) bs
percent_alike signs [] none = refl
percent_alike signs (c ∷ cs) none = rw (no_name_here signs.names cs (not_closing c cs none).1) refl

dollar_alike : (one other : List ℕ → Sign) (signs : Signs) (bs : List ℕ)
    → ((cs : List ℕ) → name_up_to cs ≡ None → one cs ≡ other cs) → name_up_to bs ≡ None
    → dollar_sign one signs bs ≡ dollar_sign other (without_names signs) bs
dollar_alike one other signs [] same none = refl
dollar_alike one other signs (c ∷ cs) same none = rw (same cs (not_closing c cs none).1) refl

sign_alike : (one other : List ℕ → Sign) (signs : Signs) (b : ℕ) (bs : List ℕ)
    → ((cs : List ℕ) → name_up_to cs ≡ None → one cs ≡ other cs) → name_up_to bs ≡ None
    → sign_with one signs b bs ≡ sign_with other (without_names signs) b bs
sign_alike one other signs b bs same none = rw (percent_alike signs bs none, dollar_alike one other signs bs same none)
    refl

read_alike : (signs : Signs) (count : ℕ) (text : List ℕ) → name_up_to text ≡ None
    → read_behind signs count text ≡ read_behind (without_names signs) count text
read_alike signs count [] none = refl
read_alike signs (suc count) (b ∷ bs) none = read_alike signs count bs (not_closing b bs none).1
read_alike signs zero (b ∷ bs) none =
    let fewer = without_names signs in
    let behind = (not_closing b bs none).1 in
    let same = sign_alike (lookup_sign signs) (lookup_sign fewer) signs b bs
    (λ cs none. no_lookup_here signs cs none ∙ sym (no_lookup_here fewer cs none)) behind in
    ap (λ sign. with_part sign.part (read_behind signs (sign.length - 1) bs)) same
    ∙ ap (with_part (sign_at fewer b bs).part) (read_alike signs ((sign_at fewer b bs).length - 1) bs behind)

inside_alike : (ends : ℕ → Bool) (signs : Signs) (count : ℕ) (text : List ℕ) → name_up_to text ≡ None
    → inner_behind ends signs count text ≡ inner_behind ends (without_names signs) count text
inside_alike ends signs count [] none = refl
inside_alike ends signs (suc count) (b ∷ bs) none = inside_alike ends signs count bs (not_closing b bs none).1
inside_alike ends signs zero (b ∷ bs) none =
    let sign = sign_inside (without_names signs) b bs in
    let behind = (not_closing b bs none).1 in
    ap (cond (ends b) (Some (record { pieces = []; behind = b ∷ bs })))
    (ap (λ sign. with_inner sign.part (inner_behind ends signs (sign.length - 1) bs))
    (sign_alike no_lookup no_lookup signs b bs (λ cs none. refl) behind)
    ∙ ap (with_inner sign.part) (inside_alike ends signs (sign.length - 1) bs behind))

unclosed : (signs : Signs) (text : List ℕ) → name_up_to text ≡ None → Alike (without_names signs) signs text
unclosed signs text none = record {
  whole = sym (read_alike signs 0 text none);
  inside = λ ends. sym (inside_alike ends signs 0 text none);
}

-- Where no `}` ends the name behind `%{`, none ends another.
pub unclosed_brace : (signs : Signs) (name : List ℕ) → name_up_to name ≡ None
    → Alike (without_names signs) signs (brace_open ∷ name)
unclosed_brace signs name none = unclosed signs (brace_open ∷ name) (ap (option_map (λ bs. brace_open ∷ bs)) none)
