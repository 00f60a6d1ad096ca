-- Names one behind another, and all names of some rules.
use Rattle.std.proofs.Common.{◌≡◌, ℕ, ◌<◌, List, [], ◌∷◌, ◌++◌, length, drop, nat_eq, true}
use Rattle.std.proofs.Common.{if◌then◌else◌, refl, ap, ◌∙◌, arith, length-drop, suc, zero}
use Rattle.std.proofs.lemmas.Bool.{false≢true}
use Rattle.std.proofs.lemmas.List.Concat.{flat_map-append}
use Rattle.std.proofs.lemmas.List.Sums.{fold-append}
use Rattle.std.specs.BTreeSet.{insert_key}
use Rattle.std.specs.List.{flat_map, starts_with}
use Rattle.hc_model.specs.declared.rewrite.Rule.{Rule}
use Rattle.hc_model.specs.declared.template.Var.{Var}
use Rattle.hc_named.specs.Gathering.{Found, own_found, with_names, with_rules, with_var, with_vars}
use Rattle.hc_named.specs.Named.{AreNames, front, headers_of, rule_vars, stripped, stripped_by, text_cmp, variables_of}
use Rattle.hc_named.specs.declared.names.Names.{Names}

-- ---- without the front

-- More turns than bytes change nothing.
enough : (one other : ℕ) (name : List ℕ) → length name < one → length name < other
    → stripped_by one name ≡ stripped_by other name
enough zero other name below beneath = absurd (omega arith)
enough (suc one) zero name below beneath = absurd (omega arith)
enough (suc one) (suc other) [] below beneath = refl
enough (suc one) (suc other) (b ∷ bs) below beneath =
    ap (λ later. (b ∷ bs) ∷ (if starts_with nat_eq (b ∷ bs) front then later else []))
    (enough one other (drop (length front) (b ∷ bs)) (omega (arith, length-drop (length front) (b ∷ bs)))
    (omega (arith, length-drop (length front) (b ∷ bs))))

pub stripped_more : (name : List ℕ) → starts_with nat_eq name front ≡ true
    → stripped name ≡ name ∷ stripped (drop (length front) name)
stripped_more [] begins = absurd (false≢true begins)
stripped_more (b ∷ bs) begins = rw begins (ap (λ later. (b ∷ bs) ∷ later)
    (enough (length (b ∷ bs)) (suc (length (drop (length front) (b ∷ bs)))) (drop (length front) (b ∷ bs))
    (omega (arith, length-drop (length front) (b ∷ bs))) (omega arith)))

-- ---- all names

all_found : (found : Found) (vars : List Var) → with_vars found vars ≡ record {
  variables = with_names found.variables (flat_map variables_of vars);
  headers = with_names found.headers (flat_map headers_of vars);
}
unfolding with_var
all_found found [] = refl
all_found found (var ∷ vars) = rw (
  fold-append (insert_key text_cmp) found.variables (variables_of var),
  fold-append (insert_key text_cmp) found.headers (headers_of var),
) (all_found (with_var found var) vars)

pub rules_behind : (found : Found) (rules later : List Rule)
    → with_rules found (rules ++ later) ≡ with_rules (with_rules found rules) later
rules_behind found rules later = rw (flat_map-append rule_vars rules later)
    (fold-append with_var found (flat_map rule_vars rules) (flat_map rule_vars later))

flat_map_nested : {A B C : Type 0} (f : B → List C) (g : A → List B) (xs : List A)
    → flat_map f (flat_map g xs) ≡ flat_map (λ x. flat_map f (g x)) xs
flat_map_nested f g [] = refl
flat_map_nested f g (x ∷ xs) = flat_map-append f (g x) (flat_map g xs)
    ∙ ap (λ later. flat_map f (g x) ++ later) (flat_map_nested f g xs)

pub vars_behind : {A : Type 0} (found : Found) (rules : List Rule) (f : A → List Rule) (xs : List A)
    → with_rules found (rules ++ flat_map f xs)
    ≡ with_vars (with_rules found rules) (flat_map (λ x. flat_map rule_vars (f x)) xs)
vars_behind found rules f xs = rules_behind found rules (flat_map f xs)
    ∙ ap (with_vars (with_rules found rules)) (flat_map_nested rule_vars f xs)

pub are_names : (rules : List Rule) (found : Found) (names : Names)
    → names ≡ record { variables = found.variables; headers = found.headers }
    → found ≡ with_rules own_found rules → AreNames rules names
are_names rules found names same is = rw (same, is, all_found own_found (flat_map rule_vars rules))
    (record { variables = refl; headers = refl })
