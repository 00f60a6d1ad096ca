-- Sets that the parts of a location are made of.
use Rattle.std.specs.Prelude.{◌≡◌, ◌⊎◌, ℕ, List, [], ◌++◌, true, false, IsTrue, if◌then◌else◌}
use Rattle.std.specs.List.{AllZip, list_any}
use Rattle.hc_base.specs.Bytes.{is_question}
use Rattle.hc_base.specs.Paths.{begins_with_slash}
use Rattle.hc_dfa.specs.Automata.{Automaton}
use Rattle.hc_dfa.specs.Texts.{IsText, TextSet}
use Rattle.hc_model.specs.declared.mapping.PathTest.{PathTest}
use Rattle.hc_model.specs.declared.template.Piece.{Piece}
use Rattle.hc_pat_lang.specs.Sets.{AcceptsOnly}
use Rattle.hc_sent.specs.Making.{MayBe, is_of_bytes}

-- A set for each piece of a target.
abbrev pub AreSetsOf : TextSet → PathTest → List Piece → List Automaton → Type 0
AreSetsOf paths from = AllZip (λ piece set. AcceptsOnly (MayBe paths from piece) set × is_of_bytes piece)

-- The texts of a set, where the other one has some.
abbrev pub IsIfSome : TextSet → TextSet → List ℕ → Type 0
IsIfSome other set text = ((own : List ℕ) × IsText own × IsTrue (other own)) × IsTrue (set text)

-- The query, unless the target has one.
abbrev pub MayAskBehind : TextSet → TextSet → List ℕ → Type 0
MayAskBehind targets queries text = (own : List ℕ) × IsText own × IsTrue (targets own)
    × (((list_any is_question own ≡ false) × IsTrue (queries text)) ⊎ ((list_any is_question own ≡ true) × (text ≡ [])))

-- A path has this in front, and another target is left as it is.
abbrev pub fronted : List ℕ → List ℕ → List ℕ
fronted front text = if begins_with_slash text then front ++ text else text
