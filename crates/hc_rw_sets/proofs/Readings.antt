-- What a test that reads byte by byte says.
use Rattle.std.proofs.Common.{◌≡◌, ℕ, ◌<◌, List, [], ◌∷◌, Bool, true, false, ◌||◌, refl, ◌∙◌}
use Rattle.std.specs.List.{list_any}
use Rattle.hc_base.specs.Bytes.{is_question}
use Rattle.hc_dfa.specs.Readings.{reading_from}
use Rattle.hc_dfa.specs.Texts.{TextSet, IsText}

-- It holds of the texts that its key means, where each byte leads to the key that means what is left.
pub read_as : {K : Type 0} (reads : K → ℕ → K) (holds : K → Bool) (meant : K → TextSet)
    → ((key : K) → holds key ≡ meant key [])
    → ((key : K) (byte : ℕ) (text : List ℕ) → byte < 256 → meant (reads key byte) text ≡ meant key (byte ∷ text))
    → (key : K) (text : List ℕ) → IsText text → reading_from reads holds key text ≡ meant key text
read_as reads holds meant ends goes_on key [] bytes = ends key
read_as reads holds meant ends goes_on key (byte ∷ text) bytes =
    read_as reads holds meant ends goes_on (reads key byte) text bytes.1 ∙ goes_on key byte text bytes.0

pub read_any : (text : List ℕ) (found : Bool)
    → reading_from (λ found byte. found || is_question byte) (λ found. found) found text
    ≡ (found || list_any is_question text)
read_any [] true = refl
read_any [] false = refl
read_any (b ∷ text) true = read_any text true
read_any (b ∷ text) false = read_any text (is_question b)
