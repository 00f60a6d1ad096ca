-- The methods that are one of some names.
use Rattle.std.proofs.Common.{◌≡◌, ◌∙◌, ℕ, List, [], ◌∷◌, Bool, true, false, ◌&&◌, ◌||◌}
use Rattle.std.proofs.Common.{◌⊎◌, inl, inr, codes, refl, sym}
use Rattle.std.proofs.Common.{ap, ap₂, true≢false, if◌then◌else◌}
use Rattle.std.proofs.lemmas.Bool.{or_cases}
use Rattle.std.specs.List.{list_any}
use Rattle.std.specs.Str.{bytes_eq}
use Rattle.hc_authz.specs.Values.{is_method, method_of}
use Rattle.hc_dfa.specs.Automata.{Automaton, accepts}
use Rattle.hc_dfa.specs.Built.{Accepts, product_of}
use Rattle.hc_dfa.specs.declared.products.Keep.TheVariants.{Either}
use Rattle.hc_dfa.specs.Singles.{is_among}
use Rattle.hc_plan.proofs.Slots.{same_bytes}
use Rattle.hc_abs_authz.specs.Methods.{is_get, is_one_of}
use Rattle.hc_abs_authz.proofs.Common.{second_of, or_none}

abbrev get : List ℕ
get = codes "GET"

abbrev head : List ℕ
head = codes "HEAD"

as_get : (name : List ℕ) → is_get name ≡ true → method_of name ≡ get
as_get name is = by (or_cases (bytes_eq name get) (bytes_eq name head) is)
  where
    by : (bytes_eq name get ≡ true) ⊎ (bytes_eq name head ≡ true) → method_of name ≡ get
    by (inl same) = ap method_of (same_bytes name get same)
    by (inr same) = ap method_of (same_bytes name head same)

as_itself : (name : List ℕ) → is_get name ≡ false → method_of name ≡ name
as_itself name isnt = by (bytes_eq name head) refl
  where
    by : (v : Bool) → bytes_eq name head ≡ v → (if v then get else name) ≡ name
    by false is = refl
    by true is = absurd (true≢false (sym (second_of (bytes_eq name get) (bytes_eq name head) is) ∙ isnt))

isnt_same : (one other : List ℕ) → is_get one ≡ true → is_get other ≡ false → (v : Bool) → bytes_eq one other ≡ v
    → v ≡ false
isnt_same one other is isnt false same = refl
isnt_same one other is isnt true same =
    absurd (true≢false (sym is ∙ ap is_get (same_bytes one other same) ∙ isnt))

also_isnt : (one other : List ℕ) → is_get one ≡ false → is_get other ≡ true → (v : Bool) → bytes_eq one other ≡ v
    → v ≡ false
also_isnt one other isnt is false same = refl
also_isnt one other isnt is true same =
    absurd (true≢false (sym is ∙ ap is_get (sym (same_bytes one other same)) ∙ isnt))

is_method_by : (asked name : List ℕ) (a n : Bool) → is_get asked ≡ a → is_get name ≡ n
    → is_method asked name ≡ (bytes_eq asked name || (n && a))
is_method_by asked name true true is also =
    ap₂ bytes_eq (as_get asked is) (as_get name also) ∙ sym (second_of (bytes_eq asked name) true refl)
is_method_by asked name true false is isnt =
    ap₂ bytes_eq (as_get asked is) (as_itself name isnt) ∙ isnt_same get name refl isnt _ refl
    ∙ sym (isnt_same asked name is isnt _ refl) ∙ sym (or_none (bytes_eq asked name))
is_method_by asked name false true isnt is =
    ap₂ bytes_eq (as_itself asked isnt) (as_get name is) ∙ also_isnt asked get isnt refl _ refl
    ∙ sym (also_isnt asked name isnt is _ refl) ∙ sym (or_none (bytes_eq asked name))
is_method_by asked name false false isnt also =
    ap₂ bytes_eq (as_itself asked isnt) (as_itself name also) ∙ sym (or_none (bytes_eq asked name))

shuffled : (a b c d g : Bool) → ((a || (b && g)) || (c || (d && g))) ≡ ((a || c) || ((b || d) && g))
shuffled true b c d g = refl
shuffled false true true d true = refl
shuffled false true true d false = refl
shuffled false true false d true = refl
shuffled false true false true false = refl
shuffled false true false false false = refl
shuffled false false true d g = refl
shuffled false false false d g = refl

pub one_of : (names : List (List ℕ)) (asked : List ℕ)
    → is_one_of names asked ≡ (is_among names asked || (list_any is_get names && is_get asked))
one_of [] asked = refl
one_of (name ∷ names) asked =
    ap₂ (λ first rest. first || rest) (is_method_by asked name _ _ refl refl) (one_of names asked)
    ∙ shuffled (bytes_eq asked name) (is_get name) (is_among names asked) (list_any is_get names) (is_get asked)

-- The automaton of the names is that of the methods, where GET is none of them.
pub own_set : (names : List (List ℕ)) (made : Automaton) → Accepts made (is_among names) → list_any is_get names ≡ false
    → Accepts made (is_one_of names)
own_set names made accepts none text bytes =
    accepts text bytes ∙ sym (or_none (is_among names text))
    ∙ ap (λ some. is_among names text || (some && is_get text)) (sym none) ∙ sym (one_of names text)

pub with_gets : (names : List (List ℕ)) (own gets made : Automaton) → Accepts own (is_among names) → Accepts gets is_get
    → Accepts made (product_of Either own gets) → list_any is_get names ≡ true → Accepts made (is_one_of names)
with_gets names own gets made is also both some text bytes =
    both text bytes ∙ ap₂ (λ x y. x || y) (is text bytes) (also text bytes)
    ∙ ap (λ some. is_among names text || (some && is_get text)) (sym some) ∙ sym (one_of names text)
