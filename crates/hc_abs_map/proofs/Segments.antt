-- What is read for segments of dots, and for slashes beside each other.
use Rattle.std.proofs.Common.{◌≡◌, ◌∙◌, ℕ, ◌==◌, List, [], ◌∷◌, ◌++◌, Bool, true, false, ◌&&◌, ◌||◌, refl, sym, ap}
use Rattle.std.proofs.Common.{append_assoc, eqb-true}
use Rattle.std.specs.List.{list_any, onto_first, slice_split}
use Rattle.hc_base.specs.Bytes.{dot}
use Rattle.hc_base.specs.Paths.{has_dots, has_double_slash, is_dots, is_slash}
use Rattle.hc_dfa.specs.Readings.{reading_from}
use Rattle.hc_dfa.specs.Texts.{TextSet}
use Rattle.hc_abs_map.specs.Dots.{ends_dotted, ends_doubled, next_run, next_segment}
use Rattle.hc_abs_map.specs.declared.dots.Run.{Run}
use Rattle.hc_abs_map.specs.declared.dots.Run.TheVariants as run
use Rattle.hc_abs_map.specs.declared.dots.Segment.{Segment}
use Rattle.hc_abs_map.specs.declared.dots.Segment.TheVariants as segment

-- ---- segments of dots

abbrev split : List ℕ → List (List ℕ)
split = slice_split is_slash

-- A segment is of dots, where this text stands before the first.
abbrev any_onto : List ℕ → List (List ℕ) → Bool
any_onto front [] = is_dots front || false
any_onto front (part ∷ parts) = is_dots (front ++ part) || list_any is_dots parts

-- One behind the first is.
abbrev any_behind : List (List ℕ) → Bool
any_behind [] = false
any_behind (part ∷ parts) = list_any is_dots parts

any_nothing : (parts : List (List ℕ)) → any_onto [] parts ≡ list_any is_dots parts
any_nothing [] = refl
any_nothing (part ∷ parts) = refl

any_more : (front : List ℕ) (b : ℕ) (parts : List (List ℕ))
    → any_onto front (onto_first b parts) ≡ any_onto (front ++ b ∷ []) parts
any_more front b [] = refl
any_more front b (part ∷ parts) =
    ap (λ part. is_dots part || list_any is_dots parts) (sym (append_assoc front (b ∷ []) part))

behind_more : (b : ℕ) (parts : List (List ℕ)) → any_behind (onto_first b parts) ≡ any_behind parts
behind_more b [] = refl
behind_more b (part ∷ parts) = refl

-- Where the first is none whatever follows.
none_first : (front : List ℕ) (parts : List (List ℕ)) → ((more : List ℕ) → is_dots (front ++ more) ≡ false)
    → is_dots front ≡ false → any_behind parts ≡ any_onto front parts
none_first front [] none alone = ap (λ is. is || false) (sym alone)
none_first front (part ∷ parts) none alone = ap (λ is. is || list_any is_dots parts) (sym (none part))

no_dot : (b : ℕ) (more : List ℕ) → (b == dot) ≡ false → is_dots (b ∷ more) ≡ false
no_dot b [] is = is
no_dot b (c ∷ []) is = ap (λ v. v && (c == dot)) is
no_dot b (c ∷ d ∷ more) is = refl

no_second : (b : ℕ) (more : List ℕ) → (b == dot) ≡ false → is_dots (dot ∷ b ∷ more) ≡ false
no_second b [] is = is
no_second b (c ∷ more) is = refl

abbrev meant : Segment → TextSet
meant segment.Empty text = any_onto [] (split text)
meant segment.One text = any_onto (dot ∷ []) (split text)
meant segment.Two text = any_onto (dot ∷ dot ∷ []) (split text)
meant segment.Other text = any_behind (split text)
meant segment.Dots text = true

abbrev Goes : Segment → ℕ → List ℕ → Type 0
Goes at b text = meant (next_segment at b) text ≡ meant at (b ∷ text)

-- By the byte: a slash, a dot, or another one.
goes_by : (at : Segment) (b : ℕ) (text : List ℕ) (slash is : Bool) → is_slash b ≡ slash → (b == dot) ≡ is
    → Goes at b text
goes_by segment.Empty b text true is slash same =
    rw (slash) (any_nothing (split text))
goes_by segment.One b text true is slash same = rw (slash) refl
goes_by segment.Two b text true is slash same = rw (slash) refl
goes_by segment.Other b text true is slash same = rw (slash) (any_nothing (split text))
goes_by segment.Empty b text false true slash same =
    rw (slash, same)
    (ap (λ b. any_onto (b ∷ []) (split text)) (sym (eqb-true b dot same)) ∙ sym (any_more [] b (split text)))
goes_by segment.One b text false true slash same =
    rw (slash, same)
    (ap (λ b. any_onto (dot ∷ b ∷ []) (split text)) (sym (eqb-true b dot same))
    ∙ sym (any_more (dot ∷ []) b (split text)))
goes_by segment.Two b text false true slash same =
    rw (slash, same)
    (none_first (dot ∷ dot ∷ b ∷ []) (split text) (λ more. refl) refl ∙ sym (any_more (dot ∷ dot ∷ []) b (split text)))
goes_by segment.Empty b text false false slash same =
    rw (slash, same)
    (none_first (b ∷ []) (split text) (λ more. no_dot b more same) same ∙ sym (any_more [] b (split text)))
goes_by segment.One b text false false slash same =
    rw (slash, same)
    (none_first (dot ∷ b ∷ []) (split text) (λ more. no_second b more same) same
    ∙ sym (any_more (dot ∷ []) b (split text)))
goes_by segment.Two b text false false slash same =
    rw (slash, same)
    (none_first (dot ∷ dot ∷ b ∷ []) (split text) (λ more. refl) refl ∙ sym (any_more (dot ∷ dot ∷ []) b (split text)))
goes_by segment.Other b text false is slash same = rw (slash) (sym (behind_more b (split text)))
goes_by segment.Dots b text slash is same other = refl

dots_read : (at : Segment) (text : List ℕ) → reading_from next_segment ends_dotted at text ≡ meant at text
dots_read segment.Empty [] = refl
dots_read segment.One [] = refl
dots_read segment.Two [] = refl
dots_read segment.Other [] = refl
dots_read segment.Dots [] = refl
dots_read at (b ∷ text) =
    dots_read (next_segment at b) text ∙ goes_by at b text (is_slash b) (b == dot) refl refl

pub dots_are : (text : List ℕ) → reading_from next_segment ends_dotted segment.Empty text ≡ has_dots text
dots_are text = dots_read segment.Empty text ∙ any_nothing (split text)

-- ---- slashes beside each other

abbrev doubled : Run → TextSet
doubled run.Other text = has_double_slash text
doubled run.Slash text = has_double_slash (47 ∷ text)
doubled run.Double text = true

other_first : (b : ℕ) (text : List ℕ) → is_slash b ≡ false → has_double_slash text ≡ has_double_slash (b ∷ text)
other_first b [] is = refl
other_first b (c ∷ text) is = ap (λ v. (v && is_slash c) || has_double_slash (c ∷ text)) (sym is)

doubled_by : (at : Run) (b : ℕ) (text : List ℕ) (slash : Bool) → is_slash b ≡ slash
    → doubled (next_run at b) text ≡ doubled at (b ∷ text)
doubled_by run.Other b text true is = rw (is) (ap (λ b. has_double_slash (b ∷ text)) (sym (eqb-true b 47 is)))
doubled_by run.Other b text false is = rw (is) (other_first b text is)
doubled_by run.Slash b text true is = rw (is) refl
doubled_by run.Slash b text false is = rw (is) (other_first b text is)
doubled_by run.Double b text slash is = refl

doubled_read : (at : Run) (text : List ℕ) → reading_from next_run ends_doubled at text ≡ doubled at text
doubled_read run.Other [] = refl
doubled_read run.Slash [] = refl
doubled_read run.Double [] = refl
doubled_read at (b ∷ text) = doubled_read (next_run at b) text ∙ doubled_by at b text (is_slash b) refl

pub doubled_is : (text : List ℕ) → reading_from next_run ends_doubled run.Other text ≡ has_double_slash text
doubled_is text = doubled_read run.Other text
