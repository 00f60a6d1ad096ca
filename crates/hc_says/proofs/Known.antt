-- One name more, and one value more.
use Rattle.std.proofs.Common.{◌≡◌, List, [], ◌∷◌, ◌++◌, ℕ, map, Bool, true, false, ◌&&◌, ◌||◌}
use Rattle.std.proofs.Common.{cond, Option, Some, None, option_map, string_bytes, String, refl, ap, sym, ◌∙◌}
use Rattle.std.specs.declared.alloc.Global.{Global}
use Rattle.std.specs.Str.{bytes_eq}
use Rattle.std.proofs.Math.Bool.{or_comm, or-false}
use Rattle.std.proofs.lemmas.List.{map-append}
use Rattle.std.proofs.lemmas.List.Folds.{list_any-append}
use Rattle.std.proofs.lemmas.List.Sums.{fold-append}
use Rattle.hc_model.specs.declared.config.Define.{Define}
use Rattle.hc_says.specs.Known.{AreNames, AreValues, HasName, HasValue, Map, Set}
use Rattle.hc_says.specs.Says.{is_among, or_value, value_of}

pub name_set : (t before : Bool) → cond t true before ≡ (t || before)
name_set true before = refl
name_set false before = refl

pub one_more_name : (before later : Set) (names : List (List ℕ)) (name : List ℕ) → AreNames before names
    → HasName before later name → AreNames later (names ++ name ∷ [])
one_more_name before later names name are has q =
    has q ∙ ap (λ known. bytes_eq name q || known) (are q) ∙ or_comm (bytes_eq name q) (is_among names q)
    ∙ sym (list_any-append (λ other. bytes_eq other q) names (name ∷ []) ∙ ap (λ last. is_among names q || last)
    (or-false (bytes_eq name q)))

pub one_more_named : (before later : Set) (defines : List Define) (define : Define)
    → AreNames before (map (λ define. define.name) defines) → HasName before later define.name
    → AreNames later (map (λ define. define.name) (defines ++ define ∷ []))
one_more_named before later defines define are has q =
    one_more_name before later (map (λ define. define.name) defines) define.name are has q
    ∙ ap (λ names. is_among names q) (sym (map-append (λ define. define.name) defines (define ∷ [])))

set_value : (t : Bool) (value before : Option (List ℕ)) → cond t value before ≡ cond (t && true) value before
set_value true value before = refl
set_value false value before = refl

no_value : (t : Bool) (before : Option (List ℕ)) → before ≡ cond (t && false) None before
no_value true before = refl
no_value false before = refl

pub same_values : (values : Map) (defines : List Define) (name : List ℕ) → AreValues values defines
    → AreValues values (defines ++ record { name = name; value = None } ∷ [])
same_values values defines name are q =
    are q ∙ no_value (bytes_eq name q) (value_of defines q)
    ∙ sym (fold-append (or_value q) None defines (record { name = name; value = None } ∷ []))

pub one_more_value : (before later : Map) (defines : List Define) (name value : List ℕ) → AreValues before defines
    → HasValue before later name value
    → AreValues later (defines ++ record { name = name; value = Some value } ∷ [])
one_more_value before later defines name value are has q =
    has q ∙ ap (λ found. cond (bytes_eq name q) (Some value) found) (are q)
    ∙ set_value (bytes_eq name q) (Some value) (value_of defines q)
    ∙ sym (fold-append (or_value q) None defines (record { name = name; value = Some value } ∷ []))

pub text_set : (t : Bool) (value : String Global) (before : Option (String Global))
    → option_map string_bytes (cond t (Some value) before) ≡ cond t (Some (string_bytes value))
    (option_map string_bytes before)
text_set true value before = refl
text_set false value before = refl
