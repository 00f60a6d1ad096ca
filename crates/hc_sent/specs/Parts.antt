-- A location as parts, of each of which it has a text; and what is written for it. Our own choice.
use Rattle.std.specs.Prelude.{◌≡◌, ◌⊎◌, ℕ, List, [], ◌∷◌, ◌++◌, IsTrue}
use Rattle.hc_base.specs.Bytes.{question}
use Rattle.hc_dfa.specs.Automata.{accepts}
use Rattle.hc_dfa.specs.Texts.{IsText}
use Rattle.hc_target.specs.Escapes.{escaped}
use Rattle.hc_sent.specs.declared.parts.Part.{Part}
use Rattle.hc_sent.specs.declared.parts.Writing.{Writing}
use Rattle.hc_sent.specs.declared.parts.Writing.TheVariants.{AsIs, Escaped, Query, QueryAsIs}

-- A query that is empty is left out with its `?`.
abbrev pub behind_question : List ℕ → List ℕ
behind_question [] = []
behind_question (b ∷ bs) = question ∷ b ∷ bs

-- What a text of a part stands for, before bytes are escaped.
abbrev pub bare : Writing → List ℕ → List ℕ
bare AsIs own = own
bare Escaped own = own
bare Query own = behind_question own
bare QueryAsIs own = behind_question own

-- What may be written for it.
abbrev pub MayWrite : Writing → List ℕ → List ℕ → Type 0
MayWrite AsIs own written = written ≡ own
MayWrite Escaped own written = written ≡ escaped own
MayWrite Query own written = (written ≡ behind_question own) ⊎ (written ≡ behind_question (escaped own))
MayWrite QueryAsIs own written = written ≡ behind_question own

-- A text of the part.
abbrev pub IsOf : Part → List ℕ → Type 0
IsOf part own = IsText own × IsTrue (accepts part.set own)

-- A text of each part, one behind the other, before bytes are escaped.
abbrev pub Joined : List Part → List ℕ → Type 0
Joined [] text = text ≡ []
Joined (part ∷ parts) text = (own : List ℕ) × (rest : List ℕ) × IsOf part own × Joined parts rest
    × (text ≡ bare part.writing own ++ rest)

-- A location that may be sent.
abbrev pub Sent : List Part → List ℕ → Type 0
Sent [] location = location ≡ []
Sent (part ∷ parts) location = (own : List ℕ) × (written : List ℕ) × (rest : List ℕ) × IsOf part own
    × MayWrite part.writing own written × Sent parts rest × (location ≡ written ++ rest)
