-- What the leaves, the lines and the trees of Require may come to, where each leaf is taken by itself.
use Rattle.std.specs.Prelude.{◌≡◌, ◌↔◌, ℕ, List, [], ◌∷◌, Bool, true, false, ◌&&◌, ◌||◌}
use Rattle.std.specs.Prelude.{Option, None, Some}
use Rattle.hc_addr.specs.declared.addr.Addr.{Addr}
use Rattle.hc_addr.specs.declared.net.Net.{Net}
use Rattle.hc_authz.specs.Values.{all_value, any_value, is_denied, is_granted, line_value, none_value}
use Rattle.hc_authz.specs.declared.tree.Tri.{Tri}
use Rattle.hc_authz.specs.declared.tree.Tri.TheVariants.{Granted, Denied, Neutral}
use Rattle.hc_dfa.specs.Texts.{TextSet}
use Rattle.hc_model.specs.declared.authorization.Merging.{Merging}
use Rattle.hc_model.specs.declared.authorization.Merging.TheVariants.{Off, And, Or}
use Rattle.hc_abs_pass.specs.Authorizing.{Asked, Leaf, leaves_of, over_members, some_first}
use Rattle.hc_abs_authz.specs.Admitting.{clients_of}
use Rattle.hc_abs_authz.specs.declared.answers.Answers.{Answers}
use Rattle.hc_abs_authz.specs.declared.values.Container.{Container}
use Rattle.hc_abs_authz.specs.declared.values.Container.TheVariants as container
use Rattle.hc_abs_authz.specs.declared.values.Values.{Values}
use Rattle.hc_abs_authz.specs.declared.values.Votes.{Votes}

-- ---- leaves

-- Some client of the network and some method of the set make a leaf say so.
abbrev pub Says : Net → TextSet → Leaf → Bool → Type 0
Says net methods leaf is =
    (client : Addr) × (m : List ℕ) × (clients_of net client ≡ true) × (methods m ≡ true) × (leaf client m ≡ is)

module _ (MaySay : Leaf → Bool → Type 0) where
  abbrev pub AllSay : List Leaf → List Bool → Type 0
  AllSay [] said = said ≡ []
  AllSay (leaf ∷ leaves) said =
      (first : Bool) × (rest : List Bool) × (said ≡ first ∷ rest) × MaySay leaf first × AllSay leaves rest

  -- Some leaf holds, or none, where it is known of those before.
  abbrev pub SomeMay : List Leaf → Bool → Bool → Type 0
  SomeMay leaves before is =
      (said : List Bool) × AllSay leaves said × ((before || (some_first leaves said).0) ≡ is)

  -- A line whose leaves these are is met, or isn't.
  abbrev pub LineMay : List Leaf → Bool → Type 0
  LineMay leaves is = SomeMay leaves false is

  -- A tree has this value.
  abbrev pub TreeMay : Asked → Tri → Type 0
  TreeMay asked value = (said : List Bool) × AllSay asked.leaves said × ((asked.value said).0 ≡ value)

  -- A container has this value, where it is known whether a member before is granted, and whether one is denied.
  abbrev pub MembersMay : (Bool → Bool → Tri) → List Asked → Bool → Bool → Tri → Type 0
  MembersMay table members granted denied value =
      (said : List Bool) × AllSay (leaves_of members) said
      × ((over_members table members granted denied said).0 ≡ value)

-- ---- answers

abbrev pub gives : Answers → Bool → Bool
gives answers true = answers.yes
gives answers false = answers.no

-- One of the first answers with one of the others: whether either is that it holds.
abbrev pub either_of : Answers → Answers → Answers
either_of first other = record {
  yes = (first.yes && (other.yes || other.no)) || (first.no && other.yes);
  no = first.no && other.no;
}

-- The answers, where there is a method at all.
abbrev pub where_some : Bool → Answers → Answers
where_some some answers = record { yes = some && answers.yes; no = some && answers.no }

-- ---- values

abbrev pub has : Values → Tri → Bool
has values Granted = values.granted
has values Denied = values.denied
has values Neutral = values.neutral

abbrev pub is_neutral : Tri → Bool
is_neutral Neutral = true
is_neutral _ = false

-- One value, where it may be had.
abbrev pub where_may : Bool → Tri → Values
where_may may value = record {
  granted = may && is_granted value;
  denied = may && is_denied value;
  neutral = may && is_neutral value;
}

abbrev pub joined : Values → Values → Values
joined one other = record {
  granted = one.granted || other.granted;
  denied = one.denied || other.denied;
  neutral = one.neutral || other.neutral;
}

abbrev pub line_values : Bool → Answers → Values
line_values negated answers =
    joined (where_may answers.yes (line_value negated true)) (where_may answers.no (line_value negated false))

-- These are the values that may be had.
pub record AreValues (May : Tri → Type 0) (found : Values) : Type 0 where
  pub each : (value : Tri) → (has found value ≡ true) ↔ May value

-- ---- votes

-- Whether some member may be granted, and another one denied.
abbrev pub votes : Votes → Bool → Bool → Bool
votes found true true = found.both
votes found true false = found.granted
votes found false true = found.denied
votes found false false = found.neither

abbrev pub no_votes : Votes
no_votes = record { neither = true; granted = false; denied = false; both = false }

abbrev pub together : Votes → Votes → Votes
together one other = record {
  neither = one.neither || other.neither;
  granted = one.granted || other.granted;
  denied = one.denied || other.denied;
  both = one.both || other.both;
}

abbrev pub kept : Bool → Votes → Votes
kept may found = record {
  neither = may && found.neither;
  granted = may && found.granted;
  denied = may && found.denied;
  both = may && found.both;
}

-- With a member more that is granted, or denied.
abbrev pub with_granted : Votes → Votes
with_granted found = record {
  neither = false;
  granted = found.neither || found.granted;
  denied = false;
  both = found.denied || found.both;
}

abbrev pub with_denied : Votes → Votes
with_denied found = record {
  neither = false;
  granted = false;
  denied = found.neither || found.denied;
  both = found.granted || found.both;
}

-- With a member more of these values.
abbrev pub with_member : Votes → Values → Votes
with_member found values =
    together (kept values.neutral found)
    (together (kept values.granted (with_granted found)) (kept values.denied (with_denied found)))

-- ---- containers

abbrev pub table_of : Container → Bool → Bool → Tri
table_of container.All = all_value
table_of container.AnyOf = any_value
table_of container.NoneOf = none_value

abbrev pub values_by : (Bool → Bool → Tri) → Votes → Values
values_by table found =
    joined (joined (where_may found.neither (table false false)) (where_may found.granted (table true false)))
    (joined (where_may found.denied (table false true)) (where_may found.both (table true true)))

-- These are the votes of members that may have these values.
pub record AreVotes (May : (Bool → Bool → Tri) → Tri → Type 0) (found : Votes) : Type 0 where
  pub each : (table : Bool → Bool → Tri) (value : Tri)
      → May table value
      ↔ ((granted : Bool) × (denied : Bool) × (votes found granted denied ≡ true) × (table granted denied ≡ value))

-- ---- trees that are joined

abbrev pub two_values : Container → Values → Values → Values
two_values kind before own = values_by (table_of kind) (with_member (with_member no_votes before) own)

abbrev pub values_joined : Values → Values → Merging → Values
values_joined before own Off = own
values_joined before own And = two_values container.All before own
values_joined before own Or = two_values container.AnyOf before own

abbrev pub values_behind : Option Values → Values → Merging → Values
values_behind None own how = own
values_behind (Some before) own how = values_joined before own how
