-- Which own servers a location leads to, and with which paths and queries. What is told of it is told before bytes are
-- escaped. Our own choice.
use Rattle.std.specs.Prelude.{◌≡◌, ◌≢◌, ◌⊎◌, ℕ, List, [], ◌∷◌, ◌++◌, Bool, true, false, not}
use Rattle.std.specs.Prelude.{nat_lt, Option, None, Some, is_some}
use Rattle.std.specs.List.{after_first, before_first, list_all, list_any}
use Rattle.hc_base.specs.Bytes.{is_question, tilde}
use Rattle.hc_dfa.specs.Automata.{Automaton}
use Rattle.hc_follow.specs.Next.{behind, slashed}
use Rattle.hc_follow.specs.declared.origin.Origin.{Origin}
use Rattle.hc_forms.specs.Forms.{is_target_byte}
use Rattle.hc_pat_lang.specs.Sets.{AcceptsOnly}
use Rattle.hc_target.specs.Segments.{is_normal}
use Rattle.hc_sent.specs.Parts.{IsOf, Joined, bare}
use Rattle.hc_sent.specs.declared.leading.Led.{Led}
use Rattle.hc_sent.specs.declared.leading.Led.TheVariants as led
use Rattle.hc_sent.specs.declared.leading.Reach.{Reach}
use Rattle.hc_sent.specs.declared.leading.Reach.TheVariants as reach
use Rattle.hc_sent.specs.declared.parts.Part.{Part}
use Rattle.hc_sent.specs.declared.parts.Writing.{Writing}
use Rattle.hc_sent.specs.declared.parts.Writing.TheVariants.{AsIs, Escaped, Query, QueryAsIs}

-- ---- the server

-- A location begins with the origin of one of these servers.
abbrev pub fits_any : List Origin → List ℕ → Bool
fits_any hosts text = list_any (λ origin. is_some (behind origin text)) hosts

-- The first server that it fits, none of those before.
abbrev pub IsFirst : List Origin → Origin → List ℕ → List ℕ → Type 0
IsFirst before origin text rest = (fits_any before text ≡ false) × (behind origin text ≡ Some rest)

-- ---- bytes

abbrev pub may_escape : Writing → Bool
may_escape AsIs = false
may_escape Escaped = true
may_escape Query = true
may_escape QueryAsIs = false

abbrev pub may_stay : Writing → Bool
may_stay AsIs = true
may_stay Escaped = false
may_stay Query = true
may_stay QueryAsIs = true

-- A byte that no target has as it is.
abbrev pub is_high : ℕ → Bool
is_high b = nat_lt tilde b

abbrev pub is_query : List ℕ → Bool
is_query query = list_all is_target_byte query

abbrev pub HasByte : Part → (ℕ → Bool) → Type 0
HasByte part is = (own : List ℕ) × IsOf part own × (list_any is own ≡ true)

-- ---- what stands behind the origin

abbrev pub is_filled : List ℕ → Bool
is_filled [] = false
is_filled (b ∷ bs) = true

abbrev pub if_behind : (List ℕ → Bool) → Option (List ℕ) → Bool
if_behind test None = false
if_behind test (Some rest) = test rest

-- It has a `?`; and a byte behind that.
abbrev pub has_question : Origin → List ℕ → Bool
has_question origin text = if_behind (list_any is_question) (behind origin text)

abbrev pub has_query : Origin → List ℕ → Bool
has_query origin text = if_behind (λ rest. is_filled (after_first is_question rest)) (behind origin text)

-- ---- one server

-- These servers are asked before it.
module _ (parts : List Part) (before : List Origin) (origin : Origin) where
  abbrev pub IsRest : List ℕ → Type 0
  IsRest rest = (text : List ℕ) × Joined parts text × IsFirst before origin text rest

  -- Up to the first `?`, and `/` for nothing.
  abbrev pub IsPath : List ℕ → Type 0
  IsPath path = (rest : List ℕ) × IsRest rest × (path ≡ slashed (before_first is_question rest))

  abbrev pub IsQuery : List ℕ → Type 0
  IsQuery query = (rest : List ℕ) × IsRest rest × (query ≡ after_first is_question rest)

  -- In a text of all parts that leads to this server, what this part stands for and what stands in front of it.
  pub record Stands (part : Part) (front own : List ℕ) : Type 0 where
    pub earlier : List Part
    pub later : List Part
    pub split : parts ≡ earlier ++ part ∷ later
    pub begins : Joined earlier front
    pub text : List ℕ
    pub of : IsOf part text
    pub is : own ≡ bare part.writing text
    pub rest : List ℕ
    pub goes_on : Joined later rest
    pub behind : List ℕ
    pub first : IsFirst before origin (front ++ own ++ rest) behind

  -- A byte of the part stands in the query.
  pub record GivesQuery (part : Part) : Type 0 where
    pub front : List ℕ
    pub own : List ℕ
    pub stands : Stands part front own
    pub some : own ≢ []
    pub query : has_query origin (front ++ own) ≡ true

  -- The `?` between path and query is one of the part.
  pub record GivesQuestion (part : Part) : Type 0 where
    pub front : List ℕ
    pub own : List ℕ
    pub stands : Stands part front own
    pub none : has_question origin front ≡ false
    pub question : has_question origin (front ++ own) ≡ true

  -- Some bytes of the query may be escaped.
  abbrev pub IsOpen : Type 0
  IsOpen = (part : Part) × (may_escape part.writing ≡ true) × GivesQuery part

  -- Any query may come then.
  abbrev pub MayAsk : List ℕ → Type 0
  MayAsk query = (IsOpen × (is_query query ≡ true)) ⊎ IsQuery query

  -- What may be outside: a path that isn't normal; a `?` that is escaped; a byte of the query that no target has, and
  -- that may stay as it is, as all of them may where none may be escaped; such a byte of the path.
  abbrev pub HasPathByte : Type 0
  HasPathByte = (path : List ℕ) × IsPath path × (is_normal path ≡ false)

  abbrev pub HidesQuestion : Type 0
  HidesQuestion = (part : Part) × (part.writing ≡ Escaped) × GivesQuestion part

  abbrev pub MayStay : Type 0
  MayStay = (part : Part) × (may_stay part.writing ≡ true) × GivesQuery part
      × HasByte part (λ b. not (is_target_byte b))

  abbrev pub IsHigh : Type 0
  IsHigh = (part : Part) × (front : List ℕ) × (own : List ℕ) × Stands part front own × (part.writing ≡ AsIs)
      × HasByte part is_high

  abbrev pub MayFail : Type 0
  MayFail = HasPathByte ⊎ (HidesQuestion ⊎ (MayStay ⊎ IsHigh))

  -- The path and the query of a next request, each by itself.
  abbrev pub GoesTo : List ℕ → Type 0
  GoesTo path = IsPath path × (is_normal path ≡ true)

  abbrev pub GoesAsking : List ℕ → Type 0
  GoesAsking query = MayAsk query × (is_query query ≡ true)

  abbrev pub MayGo : Type 0
  MayGo = ((path : List ℕ) × GoesTo path) × ((query : List ℕ) × GoesAsking query)

  abbrev pub IsOn : Led → Type 0
  IsOn found = (paths : Automaton) × (queries : Automaton) × (found ≡ led.On origin paths queries)
      × AcceptsOnly GoesTo paths × AcceptsOnly GoesAsking queries

  abbrev pub AreOn : List Led → Type 0
  AreOn found = ((one : Led) × MayGo × IsOn one × (found ≡ one ∷ [])) ⊎ ((MayGo → ⊥) × (found ≡ []))

  abbrev pub AreOutside : List Led → Type 0
  AreOutside found = (MayFail × (found ≡ led.Outside ∷ [])) ⊎ ((MayFail → ⊥) × (found ≡ []))

  -- It goes on, and then it is outside.
  abbrev pub AreLedTo : List Led → Type 0
  AreLedTo found = (on : List Led) × (out : List Led) × (found ≡ on ++ out) × AreOn on × AreOutside out

  abbrev pub AreReachedBy : List Reach → Type 0
  AreReachedBy found = ((rest : List ℕ) × IsRest rest × (found ≡ reach.Own ∷ []))
      ⊎ (((rest : List ℕ) → IsRest rest → ⊥) × (found ≡ []))

-- ---- all servers

module _ (parts : List Part) where
  -- A location that fits none of the servers.
  abbrev pub IsAway : List Origin → Type 0
  IsAway hosts = (text : List ℕ) × Joined parts text × (fits_any hosts text ≡ false)

  -- In the order of the servers, and away last.
  abbrev pub AreLedFrom : List Origin → List Origin → List Led → Type 0
  AreLedFrom before [] found = (IsAway before × (found ≡ led.Away ∷ [])) ⊎ ((IsAway before → ⊥) × (found ≡ []))
  AreLedFrom before (origin ∷ hosts) found = (own : List Led) × (rest : List Led) × (found ≡ own ++ rest)
      × AreLedTo parts before origin own × AreLedFrom (before ++ origin ∷ []) hosts rest

  abbrev pub AreReachedFrom : List Origin → List Origin → List Reach → Type 0
  AreReachedFrom before [] found = (IsAway before × (found ≡ reach.Away ∷ [])) ⊎ ((IsAway before → ⊥) × (found ≡ []))
  AreReachedFrom before (origin ∷ hosts) found = (own : List Reach) × (rest : List Reach) × (found ≡ own ++ rest)
      × AreReachedBy parts before origin own × AreReachedFrom (before ++ origin ∷ []) hosts rest
