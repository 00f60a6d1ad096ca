-- What three parts are read as, of which the first two are read together.
use Rattle.std.proofs.Common.{◌≡◌, Result, Ok, Err, refl, subst}
use Rattle.std.specs.Result.{result_map_both}
use Rattle.hc_base.specs.Gives.{Gives}
use Rattle.hc_base.specs.declared.fault.AtByte.{AtByte}
use Rattle.hc_base.specs.declared.fault.Fault.{Fault}
use Rattle.hc_expr.specs.Reading.{made_of_two}

abbrev pub pair : {A B : Type 0} → Result A AtByte → Result B AtByte → Result (A × B) AtByte
pair a b = made_of_two (λ x y. (x, y)) a b

abbrev pub pair_read : {A B : Type 0} → Result (A × B) (Fault AtByte) → Result (A × B) (Fault AtByte)
pair_read read = result_map_both (λ p. (p.0, p.1)) (λ fault. fault) read

joined : {A B C D : Type 0} (f : A → B → C → D) (a : Result A AtByte) (b : Result B AtByte) (c : Result C AtByte)
    → made_of_two (λ p z. f p.0 p.1 z) (pair a b) c ≡ made_of_two (λ made. made) (made_of_two f a b) c
joined f (Ok x) (Ok y) (Ok z) = refl
joined f (Ok x) (Ok y) (Err third) = refl
joined f (Ok x) (Err second) (Ok z) = refl
joined f (Ok x) (Err second) (Err third) = refl
joined f (Err first) (Ok y) (Ok z) = refl
joined f (Err first) (Ok y) (Err third) = refl
joined f (Err first) (Err second) (Ok z) = refl
joined f (Err first) (Err second) (Err third) = refl

pub read_alike : {A B : Type 0} (read : Result (A × B) (Fault AtByte)) (wanted : Result (A × B) AtByte)
    → Gives (pair_read read) wanted → Gives read wanted
read_alike (Ok p) wanted h = h
read_alike (Err fault) wanted h = h

pub made_of_three : {A B C D : Type 0} (f : A → B → C → D) (a : Result A AtByte) (b : Result B AtByte)
    (c : Result C AtByte) (read : Result D (Fault AtByte))
    → Gives read (made_of_two (λ p z. f p.0 p.1 z) (pair a b) c)
    → Gives read (made_of_two (λ made. made) (made_of_two f a b) c)
made_of_three f a b c read h = subst (Gives read) (joined f a b c) h
