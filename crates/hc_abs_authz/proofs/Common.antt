-- Laws of tests that several proofs cite.
use Rattle.std.proofs.Common.{◌≡◌, Bool, true, false, ◌&&◌, ◌||◌, ◌⊎◌, inl, inr, refl, sym}
use Rattle.std.proofs.Common.{true≢false}

pub both : (x y : Bool) → x ≡ true → y ≡ true → (x && y) ≡ true
both true y one other = other
both false y one other = one

pub first_of : (x y : Bool) → x ≡ true → (x || y) ≡ true
first_of true y is = refl
first_of false y is = absurd (true≢false (sym is))

pub second_of : (x y : Bool) → y ≡ true → (x || y) ≡ true
second_of true y is = refl
second_of false y is = is

pub from_either : (x y : Bool) → (x ≡ true) ⊎ (y ≡ true) → (x || y) ≡ true
from_either x y (inl is) = first_of x y is
from_either x y (inr is) = second_of x y is

pub or_none : (x : Bool) → (x || false) ≡ x
or_none true = refl
or_none false = refl

pub or_assoc : (x y z : Bool) → ((x || y) || z) ≡ (x || (y || z))
or_assoc true y z = refl
or_assoc false y z = refl
