-- How an answer came: its events, each with the source of the line that it tells of, its reads, and the JSON
-- values of both. Our own choice.
use Rattle.std.specs.Prelude.{ℕ, ◌==◌, List, [], ◌∷◌, map, if◌then◌else◌, Option, Some, None}
use Rattle.std.specs.Prelude.{unwrap_or, codes}
use Rattle.std.specs.FinMap.{get}
use Rattle.serde_json.specs.Data.{Data, array, boolean, number, string, unsigned}
use Rattle.serde_json.specs.View.{items_of}
use Rattle.hc_base.specs.Spans.{spanned}
use Rattle.hc_base.specs.declared.place.Place.{Place}
use Rattle.hc_model.specs.Node.{text_of}
use Rattle.hc_model.specs.World.{World}
use Rattle.hc_model.specs.declared.event.Authorized.{Authorized}
use Rattle.hc_model.specs.declared.event.Authorized.TheVariants.{Granted, Denied, Neutral, Unasked}
use Rattle.hc_model.specs.declared.event.Event.{Event}
use Rattle.hc_model.specs.declared.event.Event.TheVariants as event
use Rattle.hc_model.specs.declared.outcome.Outcome.{Outcome}
use Rattle.hc_model.specs.declared.read.Read.{Read}
use Rattle.hc_model.specs.declared.read.Read.TheVariants.{KindOf, TextOf, NamesOf}
use Rattle.hc_model.specs.declared.spot.Spot.{Spot}
use Rattle.hc_model.specs.declared.walk.Kind.{Kind}
use Rattle.hc_model.specs.declared.walk.Kind.TheVariants.{Absent, Dir, File}
use Rattle.hc_json.specs.Shown.{shown}

-- ---- sources

-- An event, with the source of the line that it tells of.
pub record Sourced : Type 0 where
  pub event : Event
  pub source : List ℕ

-- An answer: the outcome, how many events there were, what was looked at, and the first events.
pub record Trailed : Type 0 where
  pub outcome : Outcome
  pub events : ℕ
  pub reads : List Read
  pub trail : List Sourced

-- The text of a file, or the empty text.
abbrev pub text_at : World → List ℕ → List ℕ
text_at world file = unwrap_or (text_of (get world file)) []

-- What is written at a spot. Line 0 is the file as a whole, and has no source.
abbrev pub source_at : World → Option Spot → List ℕ
source_at world None = []
source_at world (Some spot) =
    if spot.place.line == 0 then []
    else spanned (text_at world spot.place.file) (Some spot.span)

-- The line that an event tells of, where it tells of one.
abbrev pub spot_of : Event → Option Spot
spot_of (event.Cond spot held) = Some spot
spot_of (event.Rule spot matched) = Some spot
spot_of (event.Redirect spot) = Some spot
spot_of (event.Map alias name) = alias
spot_of (event.Section spot) = Some spot
spot_of told = None

abbrev pub sourced : World → Event → Sourced
sourced world told = record { event = told; source = source_at world (spot_of told) }

-- What came of a request: the outcome, how many events there were, what was looked at, and the first events.
abbrev pub trailed_of : World → Outcome → ℕ → List Read → List Event → Trailed
trailed_of world outcome events reads trail =
    record { outcome = outcome; events = events; reads = reads; trail = map (sourced world) trail }

-- ---- JSON values

-- An array that begins with a name.
abbrev pub named : List ℕ → List Data → Data
named name rest = array (items_of (string name ∷ rest))

abbrev pub text_data : List ℕ → Data
text_data text = string (shown text)

abbrev pub count_data : ℕ → Data
count_data count = number (unsigned count)

-- The file and the line, and what follows them.
abbrev pub placed : Place → List Data → List Data
placed place rest = text_data place.file ∷ count_data place.line ∷ rest

-- Without an alias the file is empty, and the line 0.
abbrev pub place_of : Option Spot → Place
place_of None = record { file = []; line = 0 }
place_of (Some spot) = spot.place

abbrev pub kind_name : Kind → List ℕ
kind_name Absent = codes "absent"
kind_name Dir = codes "dir"
kind_name File = codes "file"

abbrev pub authorized_name : Authorized → List ℕ
authorized_name Granted = codes "granted"
authorized_name Denied = codes "denied"
authorized_name Neutral = codes "neutral"
authorized_name Unasked = codes "none"

abbrev pub event_data : Event → List ℕ → Data
event_data (event.Host place) source = named (codes "host") (placed place [])
event_data (event.Pass count path query) source =
    named (codes "pass") (count_data count ∷ text_data path ∷ text_data query ∷ [])
event_data (event.Cond spot held) source =
    named (codes "cond") (placed spot.place (boolean held ∷ text_data source ∷ []))
event_data (event.Rule spot matched) source =
    named (codes "rule") (placed spot.place (boolean matched ∷ text_data source ∷ []))
event_data (event.Text text query) source = named (codes "text") (text_data text ∷ text_data query ∷ [])
event_data (event.Round count) source = named (codes "round") (count_data count ∷ [])
event_data (event.Redirect spot) source = named (codes "redirect") (placed spot.place (text_data source ∷ []))
event_data (event.Map alias name) source =
    named (codes "map") (placed (place_of alias) (text_data name ∷ text_data source ∷ []))
event_data (event.Walk name info kind) source =
    named (codes "walk") (text_data name ∷ text_data info ∷ string (kind_name kind) ∷ [])
event_data (event.Section spot) source = named (codes "section") (placed spot.place (text_data source ∷ []))
event_data (event.Auth value) source = named (codes "auth") (string (authorized_name value) ∷ [])
event_data (event.Restart path) source = named (codes "restart") (text_data path ∷ [])

abbrev pub sourced_data : Sourced → Data
sourced_data told = event_data told.event told.source

abbrev pub read_data : Read → Data
read_data (KindOf path) = named (codes "kind") (text_data path ∷ [])
read_data (TextOf path) = named (codes "text") (text_data path ∷ [])
read_data (NamesOf path) = named (codes "names") (text_data path ∷ [])

abbrev pub trail_data : List Sourced → Data
trail_data trail = array (items_of (map sourced_data trail))

abbrev pub reads_data : List Read → Data
reads_data reads = array (items_of (map read_data reads))
