-- What a further round of a list of rules begins with.
use Rattle.std.proofs.Common.{◌≡◌, ◌∙◌, ◌⊎◌, inl, inr, ℕ, ◌+◌, ◌≤◌, ◌<◌, List, true}
use Rattle.std.proofs.Common.{Option, Some, None, refl, sym, ap, arith}
use Rattle.std.specs.Prelude.{is_some}
use Rattle.hc_model.specs.declared.outcome.Outcome.{Outcome}
use Rattle.hc_model.specs.declared.rewrite.Rule.{Rule}
use Rattle.hc_rank.specs.Ranks.{enough_rounds, shrinks}
use Rattle.hc_rw_eval.specs.Lists.{begun, from_place}
use Rattle.hc_rw_eval.specs.declared.attempt.Rewritten.{Rewritten}
use Rattle.hc_rw_eval.specs.declared.run.Finished.{Finished}
use Rattle.hc_rw_eval.specs.declared.run.NextRound.{NextRound}
use Rattle.hc_rw_eval.specs.declared.run.Round.{Round}
use Rattle.hc_rw_eval.specs.declared.run.Round.TheVariants.{Again, Over}
use Rattle.hc_rw_expand.specs.Contexts.{Context}
use Rattle.hc_rw_expand.specs.declared.state.RwState.{RwState}
use Rattle.hc_serve.specs.DirectoryRules.{context_in, ruling_dir, state_in}
use Rattle.hc_serve.specs.Passing.{admitted, finished, finished_there, reached_from, told_pass, with_tree}
unfoldable use Rattle.hc_serve.specs.Segments.{behind_directory, behind_round, behind_sections, behind_server}
unfoldable use Rattle.hc_serve.specs.Segments.{behind_server_rules, from_dir_round, from_pass, from_server_round}
unfoldable use Rattle.hc_serve.specs.Segments.{in_directory, in_server, one_round, segment}
use Rattle.hc_serve.specs.Segments.{Cut, at_pass, behind_dir_rules, dir_round, server_round}
use Rattle.hc_serve.specs.ServerRules.{context_at, engine_at, looks_of, maps_at, rules_at, state_at}
use Rattle.hc_serve.specs.Site.{Site}
use Rattle.hc_serve.specs.declared.stage.Ended.{Ended}
use Rattle.hc_serve.specs.declared.stage.Here.{Here}
use Rattle.hc_serve.specs.declared.stage.Pass.{Pass}
use Rattle.hc_serve.specs.declared.stage.Placed.{Placed}
use Rattle.hc_serve.specs.declared.stage.Placed.TheVariants as placed
use Rattle.hc_serve.specs.declared.stage.Restarted.{Restarted}
use Rattle.hc_steps.specs.Run.{Way, goes_on, is_over}
unfoldable use Rattle.hc_steps.specs.Run.{run}
use Rattle.hc_steps.specs.Step.{Shown, Step, ends, leaves, look, say, ◌>>=◌}
unfoldable use Rattle.hc_include.specs.Ending.{ending}
use Rattle.hc_rounds.proofs.Listing.{RoundShortens, round_shortens}
use Rattle.hc_rounds.proofs.Steps.{Any, Gives, gives_any, gives_if, gives_run, gives_then, gives_where}
use Rattle.hc_rounds.specs.Shortening.{HasNoInfo, length_in}
use Rattle.hc_held.proofs.Rounds.{Early, ended, ending_is, nowhere, place_early, then_is, then_on, way_of}

-- The cut with the round of number 0, in which no bound is reached.
abbrev pub first_at : Cut → Cut
first_at (at_pass left) = at_pass left
first_at (server_round pass round next) = server_round pass 0 next
first_at (dir_round here dir round next) = dir_round here dir 0 next

-- Of one list of a directory.
abbrev pub InList : Here → List ℕ → Cut → Type 0
InList here dir (dir_round own at round next) = (own ≡ here) × (at ≡ dir)
InList here dir other = Unit {0}

-- Where a list shrinks, no more rounds follow than the text is long.
abbrev pub IsBrief : Context → List Rule → ℕ → RwState → Type 0
IsBrief context rules round state = shrinks (is_some context.engine) rules ≡ true
    → (round + length_in context state ≤ enough_rounds) × HasNoInfo context.engine state

module _ (site : Site) where
  abbrev pub AreBrief : Cut → Type 0
  AreBrief (at_pass left) = Unit {0}
  AreBrief (server_round pass round next) = IsBrief (context_at site pass) (rules_at site) round next.left.state
  AreBrief (dir_round here dir round next) =
      IsBrief (context_in site here dir) here.force.rules round next.left.state

module _ (site : Site) (shown : Shown) where
  abbrev pub round_way : Context → List Rule → ℕ → Rewritten → Way Outcome Round
  round_way context rules round before =
      way_of shown (from_place context (looks_of (maps_at site)) round 0 rules before)

  -- The round of number 0 leads on, by a rule whose bound this round reaches.
  pub record LeadsFirst (context : Context) (rules : List Rule) (round : ℕ) (left : Rewritten) (way : Way Ended Cut)
      (to : NextRound → Cut) :
      Type 0 where
    pub next : NextRound
    pub leads : round_way context rules 0 left ≡ goes_on (Again next)
    pub bound : next.bound ≤ round
    pub there : way ≡ goes_on (to next)

  -- ---- a round

  module _ (end : Outcome → Ended) (context : Context) (rules : List Rule) (over : Finished → Step Ended Cut)
      (cut : ℕ → NextRound → Cut) where
    abbrev one_way : ℕ → Rewritten → Way Ended Cut
    one_way round left = way_of shown (one_round end site context rules over cut round left)

    abbrev behind_way : ℕ → Way Outcome Round → Way Ended Cut
    behind_way round (is_over own) = is_over (end own)
    behind_way round (goes_on (Over run)) = way_of shown (over run)
    behind_way round (goes_on (Again next)) = goes_on (cut (round + 1) next)

    behind_is : (round : ℕ) (way : Way Outcome Round)
        → then_on (ended end way) (λ came. way_of shown (behind_round over cut round came)) ≡ behind_way round way
    unfolding behind_round run
    behind_is round (is_over own) = refl
    behind_is round (goes_on (Over run)) = refl
    behind_is round (goes_on (Again next)) = refl

    round_is : (round : ℕ) (left : Rewritten)
        → one_way round left ≡ behind_way round (round_way context rules round left)
    unfolding one_round
    round_is round left =
        let step = from_place context (looks_of (maps_at site)) round 0 rules left in
        then_is shown (ending end step) (behind_round over cut round)
        ∙ ap (λ way. then_on way (λ came. way_of shown (behind_round over cut round came)))
        (ending_is shown end step)
        ∙ behind_is round (way_of shown step)

    round_first : (round : ℕ) (left : Rewritten) (own : Ended) → one_way round left ≡ is_over own
        → (one_way 0 left ≡ is_over own) ⊎ LeadsFirst context rules round left (one_way 0 left) (cut 1)
    round_first round left own is =
        by (round_way context rules round left) (sym (round_is round left) ∙ is)
        (place_early shown context (looks_of (maps_at site)) round 0 rules left)
      where
        over_too : (way : Way Outcome Round) → behind_way round way ≡ is_over own
            → behind_way 0 way ≡ is_over own
        over_too (is_over end) same = same
        over_too (goes_on (Over run)) same = same
        over_too (goes_on (Again next)) same = nowhere (cut (round + 1) next) own same

        by : (way : Way Outcome Round) → behind_way round way ≡ is_over own
            → Early shown round way (round_way context rules 0 left)
            → (one_way 0 left ≡ is_over own) ⊎ LeadsFirst context rules round left (one_way 0 left) (cut 1)
        by way over (inl same) = inl (round_is 0 left ∙ ap (behind_way 0) same ∙ over_too way over)
        by way over (inr early) = inr (record {
          next = early.0;
          leads = early.1;
          bound = early.2;
          there = round_is 0 left ∙ ap (behind_way 0) early.1;
        })

  abbrev pub cut_way : Cut → Way Ended Cut
  cut_way cut = way_of shown (segment site cut)

  -- A rule's bound may be reached in this round.
  abbrev pub MayLead : Cut → Type 0
  MayLead (at_pass left) = ⊥
  MayLead (server_round pass round own) = LeadsFirst (context_at site pass) (rules_at site) round own.left
      (cut_way (server_round pass 0 own)) (server_round pass 1)
  MayLead (dir_round here dir round own) = LeadsFirst (context_in site here dir) here.force.rules round own.left
      (cut_way (dir_round here dir 0 own)) (dir_round here dir 1)

  -- Where it isn't, the request ends as in the round of number 0.
  pub first_too : (cut : Cut) (own : Ended) → cut_way cut ≡ is_over own
      → (cut_way (first_at cut) ≡ is_over own) ⊎ MayLead cut
  unfolding segment from_server_round from_dir_round
  first_too (at_pass left) own is = inl is
  first_too (server_round pass round next) own is =
      round_first (with_tree None) (context_at site pass) (rules_at site) (behind_server_rules site pass)
      (server_round pass) round next.left own is
  first_too (dir_round here dir round next) own is =
      round_first (with_tree here.force.require) (context_in site here dir) here.force.rules
      (behind_dir_rules site here) (dir_round here dir) round next.left own is

-- ---- what further rounds begin with

gives_ending : {E F A : Type 0} (P : A → Type 0) (end : E → F) (step : Step E A) → Gives P step
    → Gives P (ending end step)
unfolding ending
gives_ending P end (leaves left) is = is
gives_ending P end (ends own) is = tt
gives_ending P end (say event rest) is = gives_ending P end rest is
gives_ending P end (look read rest) is = λ shown. gives_ending P end (rest shown) (is shown)

-- Whatever the first step leaves.
behind_any : {E A B : Type 0} (P : B → Type 0) (step : Step E A) (next : A → Step E B)
    → ((left : A) → Gives P (next left)) → Gives P (step >>= next)
behind_any P step next each = gives_then Any P step next (gives_any step) (λ left any. each left)

module _ (site : Site) where
  module _ (P : Cut → Type 0) where
    round_gives : (Q : Round → Type 0) (end : Outcome → Ended) (context : Context) (rules : List Rule)
        (over : Finished → Step Ended Cut) (cut : ℕ → NextRound → Cut) (round : ℕ) (left : Rewritten)
        → ((run : Finished) → Gives P (over run))
        → ((next : NextRound) → Q (Again next) → P (cut (round + 1) next))
        → Gives Q (from_place context (looks_of (maps_at site)) round 0 rules left)
        → Gives P (one_round end site context rules over cut round left)
    unfolding one_round behind_round
    round_gives Q end context rules over cut round left each again is =
        let step = from_place context (looks_of (maps_at site)) round 0 rules left in
        gives_then Q P (ending end step) (behind_round over cut round) (gives_ending Q end step is) by
      where
        by : (came : Round) → Q came → Gives P (behind_round over cut round came)
        by (Over run) is = each run
        by (Again next) is = again next is

    directory_gives : ((left : Restarted) → P (at_pass left)) → (here : Here) (left : Option RwState)
        → Gives P (behind_directory site here left)
    unfolding behind_directory
    directory_gives each here left =
        behind_any P (ending (with_tree here.force.require) (finished_there site here left)) _ (λ pass. each _)

  pub same_list : (here : Here) (dir : List ℕ) (round : ℕ) (own : NextRound)
      → Gives (InList here dir) (segment site (dir_round here dir round own))
  unfolding segment from_dir_round
  same_list here dir round own =
      round_gives (InList here dir) Any (with_tree here.force.require) (context_in site here dir) here.force.rules
      (behind_dir_rules site here) (dir_round here dir) round own.left
      (λ run. directory_gives (InList here dir) (λ left. tt) here (Some run.left.state)) (λ next any. (refl, refl))
      (gives_any
      (from_place (context_in site here dir) (looks_of (maps_at site)) round 0 here.force.rules own.left))

  -- ---- where the list shrinks

  module _ (context : Context) (rules : List Rule) (before : Rewritten) where
    abbrev Shortens : Round → Type 0
    Shortens came = shrinks (is_some context.engine) rules ≡ true → RoundShortens context before.state came

    shortens : (round : ℕ) → Gives Shortens (from_place context (looks_of (maps_at site)) round 0 rules before)
    shortens round =
        gives_where (shrinks (is_some context.engine) rules ≡ true) (RoundShortens context before.state)
        (from_place context (looks_of (maps_at site)) round 0 rules before)
        (λ shrink.
        round_shortens context before.state (looks_of (maps_at site)) round 0 rules before shrink
        (λ none. (none, omega arith)))

    first_brief : (next : NextRound) → Shortens (Again next) → IsBrief context rules 2 next.left.state
    first_brief next short shrink = let own = (short shrink).0 in (omega (arith, own.short), own.info)

    next_brief : (round : ℕ) → IsBrief context rules round before.state → (next : NextRound)
        → Shortens (Again next)
        → IsBrief context rules (round + 1) next.left.state
    next_brief round brief next short shrink =
        let own = short shrink in
        let was = brief shrink in (omega (arith, was.0, own.1 was.1), own.0.info)

    -- A rule of the list may begin more rounds.
    pub below_bound : (shown : Shown) (round : ℕ) (next : NextRound)
        → round_way site shown context rules 0 before ≡ goes_on (Again next)
        → IsBrief context rules round before.state → shrinks (is_some context.engine) rules ≡ true
        → round < next.bound
    below_bound shown round next leads brief shrink =
        let own = gives_run Shortens _ (shortens 0) shown (Again next) leads shrink in
        let was = brief shrink in omega (arith, was.0, own.1 was.1, own.0.bound)

  dir_round_brief : (here : Here) (dir : List ℕ) (round : ℕ) (left : Rewritten)
      → ((next : NextRound) → Shortens (context_in site here dir) here.force.rules left (Again next)
      → IsBrief (context_in site here dir) here.force.rules (round + 1) next.left.state)
      → Gives (AreBrief site) (from_dir_round site here dir round left)
  unfolding from_dir_round
  dir_round_brief here dir round left again =
      let context = context_in site here dir in
      round_gives (AreBrief site) (Shortens context here.force.rules left) (with_tree here.force.require) context
      here.force.rules (behind_dir_rules site here) (dir_round here dir) round left
      (λ run. directory_gives (AreBrief site) (λ left. tt) here (Some run.left.state)) again
      (shortens context here.force.rules left round)

  in_dir_brief : (here : Here) (dir : Option (List ℕ)) → Gives (AreBrief site) (in_directory site here dir)
  unfolding in_directory
  in_dir_brief here None = directory_gives (AreBrief site) (λ left. tt) here None
  in_dir_brief here (Some dir) =
      gives_if (AreBrief site) here.force.follow _ _
      (λ follows.
      dir_round_brief here dir 1 (begun (state_in here))
      (first_brief (context_in site here dir) here.force.rules (begun (state_in here))))
      (λ forbids. tt)

  server_brief : (own : Placed) → Gives (AreBrief site) (behind_server site own)
  unfolding behind_server behind_sections
  server_brief own =
      behind_any (AreBrief site) (ending (with_tree None) (reached_from site own)) (behind_sections site)
      (λ here.
      behind_any (AreBrief site) (ending (with_tree here.force.require) (admitted site here)) _
      (λ unit. in_dir_brief here (ruling_dir here)))

  server_round_brief : (pass : Pass) (round : ℕ) (left : Rewritten)
      → ((next : NextRound) → Shortens (context_at site pass) (rules_at site) left (Again next)
      → IsBrief (context_at site pass) (rules_at site) (round + 1) next.left.state)
      → Gives (AreBrief site) (from_server_round site pass round left)
  unfolding from_server_round behind_server_rules
  server_round_brief pass round left again =
      round_gives (AreBrief site) (Shortens (context_at site pass) (rules_at site) left) (with_tree None)
      (context_at site pass) (rules_at site) (behind_server_rules site pass) (server_round pass) round left
      (λ run.
      behind_any (AreBrief site) (ending (with_tree None) (finished site pass run)) (behind_server site) server_brief)
      again (shortens (context_at site pass) (rules_at site) left round)

  in_server_brief : (pass : Pass) → Gives (AreBrief site) (in_server site pass)
  unfolding in_server
  in_server_brief pass =
      gives_if (AreBrief site) (engine_at site) _ _
      (λ on.
      server_round_brief pass 1 (begun (state_at pass))
      (first_brief (context_at site pass) (rules_at site) (begun (state_at pass))))
      (λ off. server_brief (placed.Unnamed pass))

  -- It goes on with a text that is as short as the rounds that are left.
  pub brief_next : (from : Cut) → AreBrief site from → Gives (AreBrief site) (segment site from)
  unfolding segment from_pass
  brief_next (at_pass left) brief =
      behind_any (AreBrief site) (ending (with_tree None) (told_pass left.pass)) (in_server site) in_server_brief
  brief_next (server_round pass round own) brief =
      server_round_brief pass round own.left (next_brief (context_at site pass) (rules_at site) own.left round brief)
  brief_next (dir_round here dir round own) brief =
      dir_round_brief here dir round own.left
      (next_brief (context_in site here dir) here.force.rules own.left round brief)
