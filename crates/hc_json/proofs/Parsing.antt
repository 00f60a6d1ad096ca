-- A line against the test for UTF-8.
use Rattle.std.proofs.Common.{◌≡◌, ℕ, List, true, false, None, cond, ap, refl}
use Rattle.std.specs.Str.{IsUtf8, is_utf8}
use Rattle.std.proofs.lemmas.Str.{IsUtf8-from_is_utf8, is_utf8-from_IsUtf8}
use Rattle.serde_json.specs.Read.{read}
use Rattle.hc_json.specs.Command.{json_of}

pub json_of-utf8 : (line : List ℕ) → IsUtf8 line → json_of line ≡ read line
json_of-utf8 line is = ap (λ b. cond b (read line) None) (is_utf8-from_IsUtf8 line is)

pub json_of-other : (line : List ℕ) → ¬ (IsUtf8 line) → json_of line ≡ None
json_of-other line not_text =
    elim (is_utf8 line) as (λ b. is_utf8 line ≡ b → cond b (read line) None ≡ None) [
      | true ↦ λ e. absurd (not_text (IsUtf8-from_is_utf8 line e))
      | false ↦ λ e. refl
    ] refl

pub ruleset parsing = (json_of-utf8, json_of-other)
