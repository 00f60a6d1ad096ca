-- Behind a `[` of a glob that isn't closed none is.
use Rattle.std.proofs.Common.{subst, true≢false}
use Rattle.hc_pattern.proofs.Common.{◌≡◌, ℕ, ◌+◌, ◌-◌, ◌<◌, ◌==◌, Bool, true, false, not}
use Rattle.hc_pattern.proofs.Common.{◌&&◌, ◌||◌, List, [], ◌∷◌, Option, Some, None, if◌then◌else◌}
use Rattle.hc_pattern.proofs.Common.{refl, sym, ap, ◌∙◌, eqb-true, length, take, drop, get_or, option_map}
use Rattle.hc_pattern.proofs.Common.{GlobPiece, piece_at, before_close, some_wildcard}
use Rattle.hc_pattern.proofs.Rests.{next_item, rest_is}
use Rattle.hc_base.specs.Bytes.{bracket_close, bracket_open, question, star}
use Rattle.hc_pattern.specs.Globs.{Class, any_byte, any_bytes, class_of, class_or_byte, is_complement, is_wildcard}
use Rattle.hc_pattern.specs.Globs.{means, members_of, plain}
use Rattle.hc_pattern.specs.declared.mark.Mark.{Mark}

-- None of these bytes begins a class.
abbrev pub NoClass : List Mark → Type 0
NoClass [] = Unit
NoClass (mark ∷ marks) = (piece_at mark marks ≡ piece_at mark []) × NoClass marks

abbrev pub Unclosed : Bool → List Mark → Type 0
Unclosed false marks = Unit
Unclosed true marks = NoClass marks

-- ---- no `]`

none_later : (t : Bool) (mark : Mark) (rest : Option (List Mark))
    → (if t then Some [] else option_map (λ more. mark ∷ more) rest) ≡ None → rest ≡ None
none_later t mark None none = refl
none_later true mark (Some more) none = cc
none_later false mark (Some more) none = cc

map_none : {A B : Type 0} (f : A → B) (a : Option A) → option_map f a ≡ None → a ≡ None
map_none f None none = refl
map_none f (Some x) none = cc

abbrev class_with : Bool → List Mark → Class
class_with complement members = record { complement = complement; members = members }

either_none : (t : Bool) (a b : Option (List Mark)) → a ≡ None → b ≡ None
    → (if t then option_map (class_with true) a else option_map (class_with false) b) ≡ None
either_none true a b first second = rw first refl
either_none false a b first second = rw second refl

no_class : (marks : List Mark) → before_close marks ≡ None → class_of marks ≡ None
no_class [] none = refl
no_class (mark ∷ []) none = either_none (is_complement (mark ∷ [])) None None refl refl
no_class (mark ∷ first ∷ marks) none =
    let later : before_close (first ∷ marks) ≡ None =
    none_later (means bracket_close mark) mark (before_close (first ∷ marks)) none in
    let last : before_close marks ≡ None = none_later (means bracket_close first) first (before_close marks) later in
    either_none (is_complement (mark ∷ first ∷ marks)) (members_of (first ∷ marks))
    (members_of (mark ∷ first ∷ marks))
    (ap (option_map (λ more. first ∷ more)) last) (ap (option_map (λ more. mark ∷ more)) later)

is_byte : (mark : Mark) (marks : List Mark) → class_of marks ≡ None → piece_at mark marks ≡ piece_at mark []
is_byte mark marks none = rw none refl

none_behind : (marks : List Mark) → before_close marks ≡ None → NoClass marks
none_behind [] none = tt
none_behind (mark ∷ marks) none =
    let later : before_close marks ≡ None = none_later (means bracket_close mark) mark (before_close marks) none in
    (is_byte mark marks (no_class marks later), none_behind marks later)

-- ---- a `[` that isn't closed

no_members : (marks : List Mark) → members_of marks ≡ None → NoClass marks
no_members [] none = tt
no_members (first ∷ marks) none =
    let later : before_close marks ≡ None = map_none (λ more. first ∷ more) (before_close marks) none in
    (is_byte first marks (no_class marks later), none_behind marks later)

isnt_open : (byte : ℕ) (p : Bool) → ((byte == 33) && p || (byte == 94) && p) ≡ true
    → ((byte == 91) && p) ≡ false
isnt_open byte p is = at (byte == 91) refl where
  at : (v : Bool) → (byte == 91) ≡ v → (v && p) ≡ false
  at false e = refl
  at true e =
      absurd (true≢false
      (sym (subst (λ (b : ℕ). ((b == 33) && p || (b == 94) && p) ≡ true) (eqb-true byte 91 e) is)))

no_piece : (mark : Mark) (marks : List Mark) → is_complement (mark ∷ marks) ≡ true
    → piece_at mark marks ≡ piece_at mark []
no_piece mark marks is = rw (isnt_open mark.byte (not mark.plain) is) refl

no_class_behind : (marks : List Mark) → class_of marks ≡ None → NoClass marks
no_class_behind [] none = tt
no_class_behind (mark ∷ marks) none = at (is_complement (mark ∷ marks)) refl none where
  at : (v : Bool) → is_complement (mark ∷ marks) ≡ v
      → (if v then option_map (class_with true) (members_of marks)
      else option_map (class_with false) (members_of (mark ∷ marks))) ≡ None → NoClass (mark ∷ marks)
  at true is none = (no_piece mark marks is, no_members marks (map_none (class_with true) (members_of marks) none))
  at false is none = no_members (mark ∷ marks) (map_none (class_with false) (members_of (mark ∷ marks)) none)

-- ---- piece by piece

either_way : (v : Bool) (marks : List Mark) → NoClass marks → Unclosed v marks
either_way true marks none = none
either_way false marks none = tt

class_is_wild : (q s v : Bool) (byte : ℕ) (c : Class) → v ≡ true
    → is_wildcard (if q then any_byte else if s then any_bytes else if v then class_or_byte byte (Some c)
    else plain byte) ≡ true
class_is_wild true s v byte c is = refl
class_is_wild false true v byte c is = refl
class_is_wild false false true byte c is = refl
class_is_wild false false false byte c is = cc

pub unclosed_after : (u : Bool) (mark : Mark) (marks : List Mark) → Unclosed u (mark ∷ marks)
    → Unclosed (u || means bracket_open mark && not (is_wildcard (piece_at mark marks))) marks
unclosed_after true mark marks held = held.1
unclosed_after false mark marks held = at (means bracket_open mark) (class_of marks) refl refl where
  at : (v : Bool) (c : Option Class) → means bracket_open mark ≡ v → class_of marks ≡ c
      → Unclosed (v && not (is_wildcard (piece_at mark marks))) marks
  at false c is found = tt
  at true None is found = either_way (not (is_wildcard (piece_at mark marks))) marks (no_class_behind marks found)
  at true (Some c) is found =
      let wild : is_wildcard (piece_at mark marks) ≡ true =
      rw found (class_is_wild (means question mark) (means star mark) (means bracket_open mark) mark.byte c is) in
      subst (λ (v : Bool). Unclosed (not v) marks) (sym wild) tt

piece_is : (u : Bool) (mark : Mark) (marks : List Mark) → Unclosed u (mark ∷ marks)
    → piece_at mark (if u then [] else marks) ≡ piece_at mark marks
piece_is false mark marks held = refl
piece_is true mark marks held = sym held.0

-- ---- at a place

pub piece_found : (u : Bool) (marks : List Mark) (i : ℕ) (d : Mark) (piece : GlobPiece) → i < length marks
    → Unclosed u (drop i marks)
    → piece ≡ piece_at (get_or marks i d) (if u then [] else take (length marks - (i + 1)) (drop (i + 1) marks))
    → piece ≡ piece_at (get_or marks i d) (drop (i + 1) marks)
piece_found u marks i d piece within held is =
    is ∙ ap (λ more. piece_at (get_or marks i d) (if u then [] else more)) (rest_is marks i)
    ∙ piece_is u (get_or marks i d) (drop (i + 1) marks) (subst (Unclosed u) (next_item marks i d within) held)

pub unclosed_found : (u v : Bool) (marks : List Mark) (i : ℕ) (d : Mark) (piece : GlobPiece) → i < length marks
    → Unclosed u (drop i marks)
    → piece ≡ piece_at (get_or marks i d) (drop (i + 1) marks)
    → v ≡ (u || means bracket_open (get_or marks i d) && not (is_wildcard piece))
    → Unclosed v (drop (i + 1) marks)
unclosed_found u v marks i d piece within held is now =
    let mark = get_or marks i d in
    let rest = drop (i + 1) marks in
    subst (λ (w : Bool). Unclosed w rest)
    (sym (now ∙ ap (λ p. u || means bracket_open mark && not (is_wildcard p)) is))
    (unclosed_after u mark rest (subst (Unclosed u) (next_item marks i d within) held))

unclosed_behind : (u : Bool) (mark : Mark) (marks : List Mark) → Unclosed u (mark ∷ marks) → Unclosed u marks
unclosed_behind true mark marks held = held.1
unclosed_behind false mark marks held = tt

pub unclosed_passed : (u : Bool) (marks : List Mark) (i : ℕ) (d : Mark) → i < length marks
    → Unclosed u (drop i marks) → Unclosed u (drop (i + 1) marks)
unclosed_passed u marks i d within held =
    unclosed_behind u (get_or marks i d) (drop (i + 1) marks) (subst (Unclosed u) (next_item marks i d within) held)

pub no_wildcard : (marks : List Mark) (i : ℕ) (d : Mark) (piece : GlobPiece) → i < length marks
    → piece ≡ piece_at (get_or marks i d) (drop (i + 1) marks) → is_wildcard piece ≡ false
    → some_wildcard (drop (i + 1) marks) ≡ some_wildcard (drop i marks)
no_wildcard marks i d piece within is none =
    sym (ap some_wildcard (next_item marks i d within) ∙ ap (λ v. v || some_wildcard (drop (i + 1) marks))
    (ap is_wildcard (sym is) ∙ none))
