-- The parts of the locations to which redirects lead, for all requests whose slots have texts of some sets.
-- Apache manual, mod_alias, Redirect, RedirectMatch; mod_rewrite, "RewriteRule Flags": R, NE. Our own choice.
use Rattle.std.specs.Prelude.{◌≡◌, ◌⊎◌, ℕ, List, [], ◌∷◌, ◌++◌, length, drop, Bool, true, false, IsTrue, Some}
use Rattle.std.specs.List.{list_any}
use Rattle.hc_alias.specs.Locations.{absolute}
use Rattle.hc_alias.specs.Locations as alias
use Rattle.hc_alias.specs.Tests.{Found, found_by}
use Rattle.hc_base.specs.Bytes.{is_question}
use Rattle.hc_dfa.specs.Texts.{IsText, TextSet}
use Rattle.hc_model.specs.declared.mapping.PathTest.{PathTest}
use Rattle.hc_model.specs.declared.mapping.PathTest.TheVariants.{Prefix, Search}
use Rattle.hc_model.specs.declared.mapping.Redirect.{Redirect}
use Rattle.hc_model.specs.declared.request.Caller.{Caller}
use Rattle.hc_model.specs.declared.template.Piece.{Piece}
use Rattle.hc_model.specs.declared.template.Piece.TheVariants as piece
use Rattle.hc_pat_lang.specs.Found.{IsGroupText}
use Rattle.hc_pat_lang.specs.Sets.{AcceptsOnly}
use Rattle.hc_rw_eval.specs.Locations as rule
use Rattle.hc_template.specs.Variables.{origin}
use Rattle.hc_sent.specs.Parts.{Sent}
use Rattle.hc_sent.specs.declared.parts.Part.{Part}
use Rattle.hc_sent.specs.declared.parts.Writing.{Writing}
use Rattle.hc_sent.specs.declared.parts.Writing.TheVariants as writing

abbrev pub IsPart : (List ℕ → Type 0) → Writing → Part → Type 0
IsPart Holds own part = AcceptsOnly Holds part.set × (part.writing ≡ own)

abbrev pub AreThree : (Part → Type 0) → (Part → Type 0) → (Part → Type 0) → List Part → Type 0
AreThree First Second Third parts = (one : Part) × (two : Part) × (three : Part) × (parts ≡ one ∷ two ∷ three ∷ [])
    × First one × Second two × Third three

abbrev pub IsMember : TextSet → List ℕ → Type 0
IsMember set text = IsTrue (set text)

-- ---- a rule

-- With NE they are sent as they are.
abbrev pub text_writing : Bool → Writing
text_writing true = writing.AsIs
text_writing false = writing.Escaped

abbrev pub query_writing : Bool → Writing
query_writing true = writing.QueryAsIs
query_writing false = writing.Query

-- What stands in front, the location, and the query. A query from before the pass isn't escaped: which ones are isn't
-- looked at.
abbrev pub AreRuled : List ℕ → Bool → TextSet → TextSet → List Part → Type 0
AreRuled front noescape locations queries parts = IsText front × AreThree (IsPart (λ text. text ≡ front) writing.AsIs)
    (IsPart (IsMember locations) (text_writing noescape)) (IsPart (IsMember queries) (query_writing noescape)) parts

-- ---- a redirect of a section

module _ (paths : TextSet) where
  -- What a group may hold; a prefix has none.
  abbrev pub MayHold : PathTest → ℕ → List ℕ → Type 0
  MayHold (Prefix from) number text = text ≡ []
  MayHold (Search pattern) number text = IsGroupText pattern paths number text

  -- What a piece of its target may stand for.
  abbrev pub MayBe : PathTest → Piece → List ℕ → Type 0
  MayBe from (piece.Bytes bytes) text = text ≡ bytes
  MayBe from (piece.Group number) text = MayHold from number text
  MayBe from (piece.CondGroup number) text = text ≡ []
  MayBe from (piece.Var var) text = text ≡ []
  MayBe from (piece.Lookup' map key keys fallback fallbacks) text = text ≡ []

  abbrev pub MayFill : PathTest → List Piece → List ℕ → Type 0
  MayFill from [] text = text ≡ []
  MayFill from (piece ∷ pieces) text = (own : List ℕ) × (rest : List ℕ) × (text ≡ own ++ rest) × MayBe from piece own
      × MayFill from pieces rest

  -- The target; a path of the server's own has its origin in front.
  abbrev pub IsTarget : Caller → Redirect → List ℕ → Type 0
  IsTarget caller redirect text = (own : List ℕ) × IsText own × MayFill redirect.from redirect.to own
      × (text ≡ absolute caller own)

  -- What follows a prefix.
  abbrev pub Follows : PathTest → List ℕ → Type 0
  Follows (Prefix from) text = (path : List ℕ) × IsText path × IsTrue (paths path) × (text ≡ drop (length from) path)
  Follows (Search pattern) text = text ≡ []

  -- The query is left out where the target has one.
  abbrev pub Asks : Redirect → TextSet → List ℕ → Type 0
  Asks redirect queries text = (own : List ℕ) × IsText own × MayFill redirect.from redirect.to own
      × (((list_any is_question own ≡ false) × IsTrue (queries text))
      ⊎ ((list_any is_question own ≡ true) × (text ≡ [])))

-- Bytes alone stand in a target.
abbrev pub is_of_bytes : Piece → Type 0
is_of_bytes (piece.Bytes bytes) = IsText bytes
is_of_bytes other = Unit {0}

abbrev pub AreBytes : List Piece → Type 0
AreBytes [] = Unit {0}
AreBytes (piece ∷ pieces) = is_of_bytes piece × AreBytes pieces

abbrev pub AreDirected : Caller → Redirect → TextSet → TextSet → List Part → Type 0
AreDirected caller redirect paths queries parts = IsText (origin caller) × AreBytes redirect.to
    × AreThree (IsPart (IsTarget paths caller redirect) writing.AsIs)
    (IsPart (Follows paths redirect.from) writing.Escaped) (IsPart (Asks paths redirect queries) writing.QueryAsIs)
    parts

-- ---- what is sent

-- The location of a rule is one that these parts may be sent as.
abbrev pub EachRuledIsSent : Type 0
EachRuledIsSent = (front : List ℕ) (noescape : Bool) (locations queries : TextSet) (parts : List Part)
    (text first query : List ℕ) → AreRuled front noescape locations queries parts
    → IsText text → IsTrue (locations text) → IsText query → IsTrue (queries query)
    → Sent parts (rule.location noescape front text first query)

-- So is that of a redirect.
abbrev pub EachDirectedIsSent : Type 0
EachDirectedIsSent = (caller : Caller) (redirect : Redirect) (paths queries : TextSet) (parts : List Part)
    (path query : List ℕ) (found : Found) → AreDirected caller redirect paths queries parts
    → IsText path → IsTrue (paths path) → IsText query → IsTrue (queries query)
    → found_by redirect.from path ≡ Some found
    → Sent parts (alias.location caller redirect found query)
