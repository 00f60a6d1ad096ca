-- What parts may do in the locations that lead to a server.
use Rattle.std.specs.Prelude.{◌≡◌, ◌&&◌, not, ℕ, IsTrue, List, ◌++◌, Bool, true, false}
use Rattle.hc_dfa.specs.Automata.{accepts}
use Rattle.hc_dfa.specs.Texts.{IsText, TextSet}
use Rattle.hc_sent.specs.Sets.{HasText}
use Rattle.hc_sent.specs.Ways.{is_filled, may_escape, may_stay}
use Rattle.hc_sent.specs.declared.deeds.Deed.{Deed}
use Rattle.hc_sent.specs.declared.deeds.Deed.TheVariants.{Hides, Opens, Rises, Stays}
use Rattle.hc_sent.specs.declared.joints.Joint.{Joint}
use Rattle.hc_sent.specs.declared.parts.Writing.{Writing}
use Rattle.hc_sent.specs.declared.parts.Writing.TheVariants.{AsIs, Escaped}
use Rattle.hc_sent.specs.declared.ways.Way.{Way}

-- A text of each of three sets, one behind the other, the first two together in a set, and all together in another.
pub record AreThrough (begins own marked ends whole : TextSet) : Type 0 where
  pub front : List ℕ
  pub text : List ℕ
  pub rest : List ℕ
  pub front_bytes : IsText front
  pub text_bytes : IsText text
  pub rest_bytes : IsText rest
  pub in_front : IsTrue (begins front)
  pub in_own : IsTrue (own text)
  pub in_marked : IsTrue (marked (front ++ text))
  pub in_rest : IsTrue (ends rest)
  pub in_whole : IsTrue (whole (front ++ text ++ rest))

module _ (way : Way) (joint : Joint) where
  -- A byte of the part stands in the query.
  abbrev pub GivesQueryIn : Type 0
  GivesQueryIn = AreThrough (accepts joint.before) (λ own. accepts joint.own own && is_filled own)
      (accepts way.asking) (accepts joint.behind) (accepts way.texts)

  -- The first `?` is one of the part.
  abbrev pub GivesQuestionIn : Type 0
  GivesQuestionIn = AreThrough (λ front. accepts joint.before front && not (accepts way.asked front))
      (accepts joint.own) (accepts way.asked) (accepts joint.behind) (accepts way.texts)

abbrev pub is_escaped : Writing → Bool
is_escaped Escaped = true
is_escaped other = false

abbrev pub is_as_is : Writing → Bool
is_as_is AsIs = true
is_as_is other = false

-- The part is of the kind that does this.
abbrev pub is_apt : Deed → Joint → Bool
is_apt Opens joint = may_escape joint.writing
is_apt Hides joint = is_escaped joint.writing
is_apt Stays joint = may_stay joint.writing && joint.strays
is_apt Rises joint = is_as_is joint.writing && joint.rises

abbrev pub Gives : Way → Joint → Deed → Type 0
Gives way joint Opens = GivesQueryIn way joint
Gives way joint Hides = GivesQuestionIn way joint
Gives way joint Stays = GivesQueryIn way joint
Gives way joint Rises = HasText (accepts way.texts)

abbrev pub Does : Way → Deed → Joint → Type 0
Does way deed joint = (is_apt deed joint ≡ true) × Gives way joint deed
