-- What is known of the locations that lead to one own server.
use Rattle.std.specs.Prelude.{◌≡◌, ℕ, IsTrue, List, [], ◌++◌, Bool, false, Option, None, Some}
use Rattle.hc_dfa.specs.Built.{Accepts}
use Rattle.hc_dfa.specs.Texts.{IsText, TextSet}
use Rattle.hc_follow.specs.Next.{behind}
use Rattle.hc_follow.specs.declared.origin.Origin.{Origin}
use Rattle.hc_pat_lang.specs.Sets.{AcceptsOnly}
use Rattle.hc_sent.specs.Joints.{AreJoints}
use Rattle.hc_sent.specs.Parts.{Joined}
use Rattle.hc_sent.specs.Sets.{IsAnswer}
use Rattle.hc_sent.specs.Ways.{IsFirst, IsOn, IsOpen, IsPath, IsQuery, MayFail, MayGo, fits_any, has_query}
use Rattle.hc_sent.specs.Ways.{has_question}
use Rattle.hc_sent.specs.declared.leading.Led.{Led}
use Rattle.hc_sent.specs.declared.leading.Led.TheVariants as led
use Rattle.hc_sent.specs.declared.parts.Part.{Part}
use Rattle.hc_sent.specs.declared.sites.Site.{Site}
use Rattle.hc_sent.specs.declared.ways.Way.{Way}

-- What the texts of a set have behind an origin.
abbrev pub IsLeft : Origin → TextSet → List ℕ → Type 0
IsLeft origin set rest = (text : List ℕ) × IsText text × IsTrue (set text) × (behind origin text ≡ Some rest)

-- The locations that fit none of these servers.
abbrev pub FitsNone : List Part → List Origin → List ℕ → Type 0
FitsNone parts before text = Joined parts text × (fits_any before text ≡ false)

-- What was found and such ones more.
abbrev pub Adds : {A : Type 0} → (List A → Type 0) → List A → List A → Type 0
Adds {A} P old new = (own : List A) × (new ≡ old ++ own) × P own

module _ (parts : List Part) (before : List Origin) (origin : Origin) where
  abbrev pub LeadsTo : List ℕ → Type 0
  LeadsTo text = Joined parts text × ((rest : List ℕ) × IsFirst before origin text rest)

  pub record IsWay (way : Way) : Type 0 where
    pub texts : AcceptsOnly LeadsTo way.texts
    pub asked : Accepts way.asked (has_question origin)
    pub asking : Accepts way.asking (has_query origin)
    pub paths : AcceptsOnly (IsPath parts before origin) way.paths
    pub queries : AcceptsOnly (IsQuery parts before origin) way.queries

  pub record IsSite (site : Site) : Type 0 where
    pub joints : AreJoints [] parts site.joints.now
    pub way : IsWay site.way.now
    pub own : site.origin.now ≡ origin

  -- It goes on, with these paths and queries, or it doesn't.
  abbrev pub IsOnward : Option Led → Type 0
  IsOnward None = MayGo parts before origin → ⊥
  IsOnward (Some found) = MayGo parts before origin × IsOn parts before origin found

  abbrev pub IsOutward : Option Led → Type 0
  IsOutward None = MayFail parts before origin → ⊥
  IsOutward (Some found) = MayFail parts before origin × (found ≡ led.Outside)

abbrev pub OfServer : Type 1
OfServer = List Part → List Origin → Origin → Type 0

-- The answer says whether this holds.
abbrev pub Says : OfServer → Bool → OfServer
Says P is parts before origin = IsAnswer (P parts before origin) is

-- Of all parts and servers that the site may be of.
abbrev pub Whenever : Site → OfServer → Type 0
Whenever site P =
    (parts : List Part) (before : List Origin) (origin : Origin) → IsSite parts before origin site
    → P parts before origin

-- Where it is known whether bytes of the query may be escaped.
abbrev pub Knowing : Site → Bool → OfServer → Type 0
Knowing site escapes P =
    Whenever site (λ parts before origin. Says IsOpen escapes parts before origin → P parts before origin)
