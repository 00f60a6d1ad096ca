-- A document root and a target are taken only where they begin with a slash.
use Rattle.std.proofs.Common.{◌≡◌, ◌∷◌, ◌-◌, ◌==◌, ◌&&◌, ℕ, suc, nat_lt, List, [], length}
use Rattle.std.proofs.Common.{take, Bool, true, false, if◌then◌else◌, Result, Ok, Err, refl, sym, subst, arith}
use Rattle.std.specs.List.{list_any}
use Rattle.std.specs.Result.{IfOk}
use Rattle.std.proofs.lemmas.Bool.{eqb-true}
use Rattle.hc_alias.specs.Filling.{filling_with}
use Rattle.hc_base.specs.Bytes.{slash}
use Rattle.hc_base.specs.Paths.{begins_with_slash, ends_with_slash, without_final_slash}
use Rattle.hc_base.specs.declared.fault.AtByte.{AtByte}
use Rattle.hc_config.specs.Targets.{group_target, groups_alone, is_other_sign, wrong}
use Rattle.hc_model.specs.declared.template.Piece.{Piece}
use Rattle.hc_model.specs.declared.template.Piece.TheVariants.{Bytes}
use Rattle.hc_template.specs.Filled.{Filling, filled}
use Rattle.hc_template.specs.Pieces.{with_byte}
use Rattle.hc_template.specs.Reading.{byte, read_behind, with_part}

abbrev pub Begins : List ℕ → Type 0
Begins path = begins_with_slash path ≡ true

-- ---- a document root

shortened : (path : List ℕ) (long : Bool) → (nat_lt 1 (length path) && ends_with_slash path) ≡ long
    → Begins path → Begins (if long then take (length path - 1) path else path)
shortened path false e is = is
shortened [] true e is = is
shortened (b ∷ []) true e is = cc
shortened (b ∷ c ∷ rest) true e is =
    let left : length (b ∷ c ∷ rest) - 1 ≡ suc (length rest) = omega arith in rw left is

pub root_begins : (path : List ℕ) → Begins path → Begins (without_final_slash path)
root_begins path is = shortened path (nat_lt 1 (length path) && ends_with_slash path) refl is

-- ---- a target

-- Whatever groups hold.
abbrev pub Leads : List Piece → Type 0
Leads pieces = (groups : ℕ → List ℕ) → Begins (filled (filling_with groups) pieces)

byte_first : (filling : Filling) (pieces : List Piece) → Begins (filled filling (with_byte slash pieces))
byte_first filling [] = refl
byte_first filling (Bytes bytes ∷ pieces) = refl
byte_first filling (piece ∷ pieces) = refl

byte_leads : (more : Result (List Piece) AtByte) → IfOk (with_part (byte slash) more) Leads
byte_leads (Err broken) = tt
byte_leads (Ok pieces) = λ groups. byte_first (filling_with groups) pieces

unless_other : (other : Bool) (answer : Result (List Piece) AtByte) → IfOk answer Leads
    → IfOk (if other then Err wrong else answer) Leads
unless_other true answer is = tt
unless_other false answer is = is

group_leads : (rest : List ℕ) → IfOk (group_target (slash ∷ rest)) Leads
group_leads rest = unless_other (list_any is_other_sign rest) _ (byte_leads (read_behind groups_alone 0 rest))

abbrev Reads : Type 0
Reads = List ℕ → Result (List Piece) AtByte

tested : (read : Reads) → ((rest : List ℕ) → IfOk (read (slash ∷ rest)) Leads)
    → (b : ℕ) (rest : List ℕ) (is : Bool) → (b == slash) ≡ is
    → IfOk (if is then read (b ∷ rest) else Err wrong) Leads
tested read each b rest false e = tt
tested read each b rest true e = subst (λ b. IfOk (read (b ∷ rest)) Leads) (sym (eqb-true b slash e)) (each rest)

-- A word that is read only where it begins with a slash.
own_leads : (read : Reads) → ((rest : List ℕ) → IfOk (read (slash ∷ rest)) Leads) → (word : List ℕ)
    → IfOk (if begins_with_slash word then read word else Err wrong) Leads
own_leads read each [] = tt
own_leads read each (b ∷ rest) = tested read each b rest (b == slash) refl

pub plain_leads : (word : List ℕ)
    → IfOk (if begins_with_slash word then Ok (Bytes word ∷ []) else Err wrong) Leads
plain_leads word = own_leads (λ word. Ok (Bytes word ∷ [])) (λ rest groups. refl) word

pub match_leads : (word : List ℕ) → IfOk (if begins_with_slash word then group_target word else Err wrong) Leads
match_leads word = own_leads group_target group_leads word
