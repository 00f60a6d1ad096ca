-- Numbers that are drawn from a seed, one after another.
use Rattle.std.specs.Prelude.{ℕ, ◌+◌, ◌*◌, ◌/◌, ◌%◌, ◌^◌}
use Rattle.hc_generate.specs.declared.draws.TheConstants.{INCREMENT, MULTIPLIER}

-- The number behind one, from which the next draw is made.
unfoldable pub next : ℕ → ℕ
next x = (x * MULTIPLIER + INCREMENT) % 2 ^ 64

-- What is made of numbers drawn behind x, and the last of these numbers.
abbrev pub Drawing : Type 0 → Type 0
Drawing A = ℕ → A × ℕ

-- A number below n.
abbrev pub draw : ℕ → Drawing ℕ
draw n x = (next x / 2 ^ 33 % n, next x)

infixl 10 ◌>>=◌
abbrev pub ◌>>=◌ : {A B : Type 0} → Drawing A → (A → Drawing B) → Drawing B
(first >>= more) x = more (first x).0 (first x).1

abbrev pub gives : {A : Type 0} → A → Drawing A
gives value x = (value, x)
