use Rattle.std.proofs.Common.{◌≡◌, ◌∙◌, ℕ, List, [], ◌∷◌, Bool, true, false, ◌&&◌, refl}
use Rattle.std.specs.List.{list_all}
use Rattle.hc_dfa.specs.Readings.{reading_from}
use Rattle.hc_sent.specs.Sets.{is_of}
use Rattle.hc_sent.specs.declared.bytes.Bytes.{Bytes}
use Rattle.hc_sent.proofs.bytes.texts_of.Goals as goal

read_all : (bytes : Bytes) (text : List ℕ) (all : Bool)
    → reading_from (λ all byte. all && is_of bytes byte) (λ all. all) all text
    ≡ (all && list_all (is_of bytes) text)
read_all bytes [] true = refl
read_all bytes [] false = refl
read_all bytes (b ∷ text) true = read_all bytes text (is_of bytes b)
read_all bytes (b ∷ text) false = read_all bytes text false

pub returns : goal.returns
returns c text bytes = c.in_ok-made.ensures text bytes ∙ read_all c.args.bytes text true
