-- Sets of answers, values and votes, and what they say together.
use Rattle.std.proofs.Common.{◌≡◌, ◌∙◌, ◌↔◌, Bool, true, false, ◌&&◌, ◌||◌, ◌⊎◌, inl}
use Rattle.std.proofs.Common.{inr, refl, sym, ap, ap₂, true≢false}
use Rattle.std.proofs.lemmas.Bool.{and_parts, or_cases}
use Rattle.hc_authz.specs.Values.{is_denied, is_granted, line_value}
use Rattle.hc_authz.specs.declared.tree.Tri.{Tri}
use Rattle.hc_authz.specs.declared.tree.Tri.TheVariants.{Granted, Denied, Neutral}
use Rattle.hc_abs_authz.specs.Clients.{AreAnswers}
use Rattle.hc_abs_authz.specs.Leaves.{either_of, gives, has, joined, kept, line_values}
use Rattle.hc_abs_authz.specs.Leaves.{together, values_by, votes, where_may, where_some, with_denied}
use Rattle.hc_abs_authz.specs.Leaves.{with_granted, with_member}
use Rattle.hc_abs_authz.specs.declared.answers.Answers.{Answers}
use Rattle.hc_abs_authz.specs.declared.values.Values.{Values}
use Rattle.hc_abs_authz.specs.declared.values.Votes.{Votes}
use Rattle.hc_abs_authz.proofs.Common.{both, first_of, second_of, or_none}

-- ---- answers

pub each_answer : {May : Bool → Type 0} {found : Answers} → AreAnswers May found → (is : Bool)
    → (gives found is ≡ true) ↔ May is
each_answer are true = are.yes
each_answer are false = are.no

pub are_answers : {May : Bool → Type 0} (found : Answers) → ((is : Bool) → (gives found is ≡ true) ↔ May is)
    → AreAnswers May found
are_answers found each = record { yes = each true; no = each false }

module _ (first other : Answers) where
  abbrev pub EitherMay : Bool → Type 0
  EitherMay is = (x : Bool) × (y : Bool) × (gives first x ≡ true) × (gives other y ≡ true) × ((x || y) ≡ is)

  either_yes : ((first.yes && (other.yes || other.no)) ≡ true) ⊎ ((first.no && other.yes) ≡ true) → EitherMay true
  either_yes (inl is) =
      by (or_cases other.yes other.no (and_parts first.yes (other.yes || other.no) is).1)
    where
      by : (other.yes ≡ true) ⊎ (other.no ≡ true) → EitherMay true
      by (inl held) = (true, true, (and_parts first.yes (other.yes || other.no) is).0, held, refl)
      by (inr held) = (true, false, (and_parts first.yes (other.yes || other.no) is).0, held, refl)
  either_yes (inr is) = let parts = and_parts first.no other.yes is in (false, true, parts.0, parts.1, refl)

  either_given : (x y : Bool) → gives first x ≡ true → gives other y ≡ true
      → gives (either_of first other) (x || y) ≡ true
  either_given true true one two =
      first_of (first.yes && (other.yes || other.no)) _ (both first.yes _ one (first_of other.yes other.no two))
  either_given true false one two =
      first_of (first.yes && (other.yes || other.no)) _ (both first.yes _ one (second_of other.yes other.no two))
  either_given false true one two =
      second_of (first.yes && (other.yes || other.no)) _ (both first.no other.yes one two)
  either_given false false one two = both first.no other.no one two

  pub either_may : (is : Bool) → (gives (either_of first other) is ≡ true) ↔ EitherMay is
  either_may true = (
    λ held. either_yes (or_cases (first.yes && (other.yes || other.no)) (first.no && other.yes) held),
    λ may. ap (gives (either_of first other)) (sym may.4) ∙ either_given may.0 may.1 may.2 may.3,
  )
  either_may false = (
    λ held. let parts = and_parts first.no other.no held in (false, false, parts.0, parts.1, refl),
    λ may. ap (gives (either_of first other)) (sym may.4) ∙ either_given may.0 may.1 may.2 may.3,
  )

pub where_some_may : (some : Bool) (answers : Answers) (is : Bool)
    → gives (where_some some answers) is ≡ (some && gives answers is)
where_some_may some answers true = refl
where_some_may some answers false = refl

-- ---- values

pub has_joined : (one other : Values) (value : Tri) → has (joined one other) value ≡ (has one value || has other value)
has_joined one other Granted = refl
has_joined one other Denied = refl
has_joined one other Neutral = refl

has_one : (may : Bool) (own value : Tri) → has (where_may may own) value ≡ true → (may ≡ true) × (own ≡ value)
has_one true Granted Granted is = (refl, refl)
has_one true Denied Denied is = (refl, refl)
has_one true Neutral Neutral is = (refl, refl)
has_one true Granted Denied is = absurd (true≢false (sym is))
has_one true Granted Neutral is = absurd (true≢false (sym is))
has_one true Denied Granted is = absurd (true≢false (sym is))
has_one true Denied Neutral is = absurd (true≢false (sym is))
has_one true Neutral Granted is = absurd (true≢false (sym is))
has_one true Neutral Denied is = absurd (true≢false (sym is))
has_one false own Granted is = absurd (true≢false (sym is))
has_one false own Denied is = absurd (true≢false (sym is))
has_one false own Neutral is = absurd (true≢false (sym is))

has_own : (may : Bool) (own : Tri) → may ≡ true → has (where_may may own) own ≡ true
has_own true Granted is = refl
has_own true Denied is = refl
has_own true Neutral is = refl
has_own false own is = absurd (true≢false (sym is))

joined_cases : (one other : Values) (value : Tri) → has (joined one other) value ≡ true
    → (has one value ≡ true) ⊎ (has other value ≡ true)
joined_cases one other value is = or_cases (has one value) (has other value) (sym (has_joined one other value) ∙ is)

joined_first : (one other : Values) (value : Tri) → has one value ≡ true → has (joined one other) value ≡ true
joined_first one other value is = has_joined one other value ∙ first_of (has one value) (has other value) is

joined_second : (one other : Values) (value : Tri) → has other value ≡ true → has (joined one other) value ≡ true
joined_second one other value is = has_joined one other value ∙ second_of (has one value) (has other value) is

-- ---- lines

module _ (negated : Bool) (answers : Answers) where
  abbrev pub LineHas : Tri → Type 0
  LineHas value = (is : Bool) × (gives answers is ≡ true) × (line_value negated is ≡ value)

  line_cases : (value : Tri)
      → (has (where_may answers.yes (line_value negated true)) value ≡ true)
      ⊎ (has (where_may answers.no (line_value negated false)) value ≡ true) → LineHas value
  line_cases value (inl is) =
      let parts = has_one answers.yes (line_value negated true) value is in (true, parts.0, parts.1)
  line_cases value (inr is) =
      let parts = has_one answers.no (line_value negated false) value is in (false, parts.0, parts.1)

  line_has : (is : Bool) → gives answers is ≡ true → has (line_values negated answers) (line_value negated is) ≡ true
  line_has true held =
      joined_first (where_may answers.yes (line_value negated true)) (where_may answers.no (line_value negated false))
      (line_value negated true) (has_own answers.yes (line_value negated true) held)
  line_has false held =
      joined_second (where_may answers.yes (line_value negated true)) (where_may answers.no (line_value negated false))
      (line_value negated false) (has_own answers.no (line_value negated false) held)

  pub line_may : (value : Tri) → (has (line_values negated answers) value ≡ true) ↔ LineHas value
  line_may value = (
    λ held. line_cases value (joined_cases (where_may answers.yes (line_value negated true))
        (where_may answers.no (line_value negated false)) value held),
    λ may. ap (has (line_values negated answers)) (sym may.2) ∙ line_has may.0 may.1,
  )

-- ---- containers

module _ (table : Bool → Bool → Tri) (found : Votes) where
  abbrev pub VotesMake : Tri → Type 0
  VotesMake value =
      (granted : Bool) × (denied : Bool) × (votes found granted denied ≡ true) × (table granted denied ≡ value)

  abbrev neither : Values
  neither = where_may found.neither (table false false)

  abbrev granted_only : Values
  granted_only = where_may found.granted (table true false)

  abbrev denied_only : Values
  denied_only = where_may found.denied (table false true)

  abbrev of_both : Values
  of_both = where_may found.both (table true true)

  make_cases : (value : Tri) → (has (joined neither granted_only) value ≡ true)
      ⊎ (has (joined denied_only of_both) value ≡ true) → VotesMake value
  make_cases value (inl is) = by (joined_cases neither granted_only value is)
    where
      by : (has neither value ≡ true) ⊎ (has granted_only value ≡ true) → VotesMake value
      by (inl is) = let parts = has_one found.neither (table false false) value is in (false, false, parts.0, parts.1)
      by (inr is) = let parts = has_one found.granted (table true false) value is in (true, false, parts.0, parts.1)
  make_cases value (inr is) = by (joined_cases denied_only of_both value is)
    where
      by : (has denied_only value ≡ true) ⊎ (has of_both value ≡ true) → VotesMake value
      by (inl is) = let parts = has_one found.denied (table false true) value is in (false, true, parts.0, parts.1)
      by (inr is) = let parts = has_one found.both (table true true) value is in (true, true, parts.0, parts.1)

  made_by : (granted denied : Bool) → votes found granted denied ≡ true
      → has (values_by table found) (table granted denied) ≡ true
  made_by false false is =
      joined_first (joined neither granted_only) (joined denied_only of_both) _
      (joined_first neither granted_only _ (has_own found.neither (table false false) is))
  made_by true false is =
      joined_first (joined neither granted_only) (joined denied_only of_both) _
      (joined_second neither granted_only _ (has_own found.granted (table true false) is))
  made_by false true is =
      joined_second (joined neither granted_only) (joined denied_only of_both) _
      (joined_first denied_only of_both _ (has_own found.denied (table false true) is))
  made_by true true is =
      joined_second (joined neither granted_only) (joined denied_only of_both) _
      (joined_second denied_only of_both _ (has_own found.both (table true true) is))

  pub make_may : (value : Tri) → (has (values_by table found) value ≡ true) ↔ VotesMake value
  make_may value = (
    λ held. make_cases value (joined_cases (joined neither granted_only) (joined denied_only of_both) value held),
    λ may. ap (has (values_by table found)) (sym may.3) ∙ made_by may.0 may.1 may.2,
  )

-- ---- votes

votes_together : (one other : Votes) (granted denied : Bool)
    → votes (together one other) granted denied ≡ (votes one granted denied || votes other granted denied)
votes_together one other true true = refl
votes_together one other true false = refl
votes_together one other false true = refl
votes_together one other false false = refl

votes_kept : (may : Bool) (found : Votes) (granted denied : Bool)
    → votes (kept may found) granted denied ≡ (may && votes found granted denied)
votes_kept may found true true = refl
votes_kept may found true false = refl
votes_kept may found false true = refl
votes_kept may found false false = refl

module _ (found : Votes) (values : Values) where
  -- With one member more.
  abbrev pub MoreVote : Bool → Bool → Type 0
  MoreVote granted denied =
      (before : Bool) × (other : Bool) × (value : Tri) × (votes found before other ≡ true) × (has values value ≡ true)
      × ((before || is_granted value) ≡ granted) × ((other || is_denied value) ≡ denied)

  as_before : (granted denied : Bool) → votes (kept values.neutral found) granted denied ≡ true
      → MoreVote granted denied
  as_before granted denied is =
      let parts = and_parts values.neutral (votes found granted denied)
      (sym (votes_kept values.neutral found granted denied) ∙ is) in
      (granted, denied, Neutral, parts.1, parts.0, or_none granted, or_none denied)

  more_granted : (granted denied : Bool) → votes (with_granted found) granted denied ≡ true → values.granted ≡ true
      → MoreVote granted denied
  more_granted true false is held = by (or_cases found.neither found.granted is)
    where
      by : (found.neither ≡ true) ⊎ (found.granted ≡ true) → MoreVote true false
      by (inl is) = (false, false, Granted, is, held, refl, refl)
      by (inr is) = (true, false, Granted, is, held, refl, refl)
  more_granted true true is held = by (or_cases found.denied found.both is)
    where
      by : (found.denied ≡ true) ⊎ (found.both ≡ true) → MoreVote true true
      by (inl is) = (false, true, Granted, is, held, refl, refl)
      by (inr is) = (true, true, Granted, is, held, refl, refl)
  more_granted false true is held = absurd (true≢false (sym is))
  more_granted false false is held = absurd (true≢false (sym is))

  more_denied : (granted denied : Bool) → votes (with_denied found) granted denied ≡ true → values.denied ≡ true
      → MoreVote granted denied
  more_denied false true is held = by (or_cases found.neither found.denied is)
    where
      by : (found.neither ≡ true) ⊎ (found.denied ≡ true) → MoreVote false true
      by (inl is) = (false, false, Denied, is, held, refl, refl)
      by (inr is) = (false, true, Denied, is, held, refl, refl)
  more_denied true true is held = by (or_cases found.granted found.both is)
    where
      by : (found.granted ≡ true) ⊎ (found.both ≡ true) → MoreVote true true
      by (inl is) = (true, false, Denied, is, held, refl, refl)
      by (inr is) = (true, true, Denied, is, held, refl, refl)
  more_denied true false is held = absurd (true≢false (sym is))
  more_denied false false is held = absurd (true≢false (sym is))

  abbrev granted_too : Votes
  granted_too = kept values.granted (with_granted found)

  abbrev denied_too : Votes
  denied_too = kept values.denied (with_denied found)

  spoken : (granted denied : Bool)
      → (votes granted_too granted denied ≡ true) ⊎ (votes denied_too granted denied ≡ true)
      → MoreVote granted denied
  spoken granted denied (inl is) =
      let parts = and_parts values.granted (votes (with_granted found) granted denied)
      (sym (votes_kept values.granted (with_granted found) granted denied) ∙ is) in
      more_granted granted denied parts.1 parts.0
  spoken granted denied (inr is) =
      let parts = and_parts values.denied (votes (with_denied found) granted denied)
      (sym (votes_kept values.denied (with_denied found) granted denied) ∙ is) in
      more_denied granted denied parts.1 parts.0

  more_cases : (granted denied : Bool)
      → (votes (kept values.neutral found) granted denied ≡ true)
      ⊎ (votes (together granted_too denied_too) granted denied ≡ true) → MoreVote granted denied
  more_cases granted denied (inl is) = as_before granted denied is
  more_cases granted denied (inr is) =
      spoken granted denied (or_cases (votes granted_too granted denied) (votes denied_too granted denied)
      (sym (votes_together granted_too denied_too granted denied) ∙ is))

  in_first : (granted denied : Bool) → votes (kept values.neutral found) granted denied ≡ true
      → votes (with_member found values) granted denied ≡ true
  in_first granted denied is =
      votes_together (kept values.neutral found) (together granted_too denied_too) granted denied
      ∙ first_of (votes (kept values.neutral found) granted denied) _ is

  in_rest : (granted denied : Bool) → votes (together granted_too denied_too) granted denied ≡ true
      → votes (with_member found values) granted denied ≡ true
  in_rest granted denied is =
      votes_together (kept values.neutral found) (together granted_too denied_too) granted denied
      ∙ second_of (votes (kept values.neutral found) granted denied) _ is

  in_granted : (granted denied : Bool) → votes (with_granted found) granted denied ≡ true → values.granted ≡ true
      → votes (with_member found values) granted denied ≡ true
  in_granted granted denied is held =
      in_rest granted denied (votes_together granted_too denied_too granted denied
      ∙ first_of (votes granted_too granted denied) _
      (votes_kept values.granted (with_granted found) granted denied ∙ both values.granted _ held is))

  in_denied : (granted denied : Bool) → votes (with_denied found) granted denied ≡ true → values.denied ≡ true
      → votes (with_member found values) granted denied ≡ true
  in_denied granted denied is held =
      in_rest granted denied (votes_together granted_too denied_too granted denied
      ∙ second_of (votes granted_too granted denied) _
      (votes_kept values.denied (with_denied found) granted denied ∙ both values.denied _ held is))

  voted : (before other : Bool) (value : Tri) → votes found before other ≡ true → has values value ≡ true
      → votes (with_member found values) (before || is_granted value) (other || is_denied value) ≡ true
  voted before other Neutral is held =
      let same = votes_kept values.neutral found before other ∙ both values.neutral _ held is in
      ap₂ (votes (with_member found values)) (or_none before) (or_none other) ∙ in_first before other same
  voted false false Granted is held = in_granted true false (first_of found.neither found.granted is) held
  voted true false Granted is held = in_granted true false (second_of found.neither found.granted is) held
  voted false true Granted is held = in_granted true true (first_of found.denied found.both is) held
  voted true true Granted is held = in_granted true true (second_of found.denied found.both is) held
  voted false false Denied is held = in_denied false true (first_of found.neither found.denied is) held
  voted false true Denied is held = in_denied false true (second_of found.neither found.denied is) held
  voted true false Denied is held = in_denied true true (first_of found.granted found.both is) held
  voted true true Denied is held = in_denied true true (second_of found.granted found.both is) held

  pub more_may : (granted denied : Bool)
      → (votes (with_member found values) granted denied ≡ true) ↔ MoreVote granted denied
  more_may granted denied = (
    λ held. more_cases granted denied (or_cases (votes (kept values.neutral found) granted denied)
        (votes (together granted_too denied_too) granted denied)
        (sym (votes_together (kept values.neutral found) (together granted_too denied_too) granted denied) ∙ held)),
    λ may. ap₂ (votes (with_member found values)) (sym may.5) (sym may.6) ∙ voted may.0 may.1 may.2 may.3 may.4,
  )
