-- What merges, by what stands in a body.
use Rattle.std.proofs.Common.{◌≡◌, ◌∙◌, List, [], ◌∷◌, map, Bool, true, false, ◌||◌, Option, None, Some, refl, sym, ap}
use Rattle.std.proofs.Common.{◌==◌, eqb-true, length, not, true≢false}
use Rattle.std.proofs.lemmas.List.{nil_from_length}
use Rattle.std.specs.List.{list_any}
use Rattle.std.specs.Prelude.{is_some}
use Rattle.hc_model.specs.declared.section.Body.{Body, Body-F, fold_out-Body, out-Body}
use Rattle.hc_model.specs.declared.section.Section.{Section, fold_out-Section, out-Section}
use Rattle.hc_abs_pass.specs.Sections.{Settles}
use Rattle.hc_abs_force.specs.Merging.{body_of, has_some, level_merges, merges, section_merges, sets}

some_mapped : {A : Type 0} (is : A → Bool) (items : List A) → list_any (λ is. is) (map is items) ≡ list_any is items
some_mapped is [] = refl
some_mapped is (item ∷ items) = ap (λ rest. is item || rest) (some_mapped is items)

pub merges_by : (body : Body) → merges body ≡ (sets (out-Body body) || list_any section_merges (out-Body body).inner)
merges_by body =
    fold_out-Body Bool Bool level_merges body_of body
    ∙ ap (λ inner. sets (out-Body body) || inner) (some_mapped section_merges (out-Body body).inner)

pub section_by : (section : Section) → section_merges section ≡ merges (out-Section section).body
section_by section = fold_out-Section Bool Bool level_merges body_of section

pub merges_inside : (body : Body) → sets (out-Body body) ≡ false
    → merges body ≡ list_any section_merges (out-Body body).inner
merges_inside body is = merges_by body ∙ ap (λ own. own || list_any section_merges (out-Body body).inner) is

pub merges_itself : (body : Body) → sets (out-Body body) ≡ true → merges body ≡ true
merges_itself body is = merges_by body ∙ ap (λ own. own || list_any section_merges (out-Body body).inner) is

-- ---- what merges nothing

left_off : (one other : Bool) → (one || other) ≡ false → one ≡ false
left_off true other is = is
left_off false other is = refl

right_off : (one other : Bool) → (one || other) ≡ false → other ≡ false
right_off true other is = absurd (true≢false is)
right_off false other is = is

not_false : (is : Bool) → not is ≡ false → is ≡ true
not_false true is = refl
not_false false is = absurd (true≢false is)

none_there : {A : Type 0} (items : List A) → has_some items ≡ false → items ≡ []
none_there items is = nil_from_length items (eqb-true (length items) 0 (not_false (length items == 0) is))

no_tree : {A : Type 0} (held : Option A) → is_some held ≡ false → held ≡ None
no_tree None is = refl
no_tree (Some own) is = absurd (true≢false is)

module _ (body : Body) (merges_not : merges body ≡ false) where
  abbrev own : Body-F Body Section
  own = out-Body body

  sets_not : sets own ≡ false
  sets_not = left_off (sets own) (list_any section_merges own.inner) (sym (merges_by body) ∙ merges_not)

  others_not : (is_some own.require || (own.rewrites || has_some own.redirects)) ≡ false
  others_not = right_off (has_some own.options) _ sets_not

  rules_not : (own.rewrites || has_some own.redirects) ≡ false
  rules_not = right_off (is_some own.require) _ others_not

pub settles : Settles merges
settles = record {
  options = λ body is. none_there (out-Body body).options (left_off (has_some (out-Body body).options) _ (sets_not body is));
  require = λ body is. no_tree (out-Body body).require (left_off (is_some (out-Body body).require) _ (others_not body is));
  rewrites = λ body is. left_off (out-Body body).rewrites _ (rules_not body is);
  redirects = λ body is. none_there (out-Body body).redirects (right_off (out-Body body).rewrites _ (rules_not body is));
}

-- A section inside that merges makes the one around it merge.
pub merges_around : (body : Body) → list_any section_merges (out-Body body).inner ≡ true → merges body ≡ true
merges_around body inside =
    merges_by body ∙ ap (λ inner. sets (out-Body body) || inner) inside ∙ or_true (sets (out-Body body))
  where
    or_true : (is : Bool) → (is || true) ≡ true
    or_true true = refl
    or_true false = refl
