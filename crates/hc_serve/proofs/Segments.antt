-- Passes, one after another, are segments, one after another.
use Rattle.hc_serve.proofs.Common.{◌≡◌, ◌∙◌, ℕ, suc, ◌+◌, ◌-◌, ◌<◌, ◌≤◌, List, Option}
use Rattle.hc_serve.proofs.Common.{refl, sym, ap, subst, arith, passed, passes, reached, passed_there}
use Rattle.std.proofs.Common.{zero, Bool, true, false, if◌then◌else◌, Some, None}
use Rattle.hc_include.proofs.Ending.{end_way, run_ending}
use Rattle.hc_include.specs.Ending.{ending}
use Rattle.hc_model.specs.declared.event.Event.{Event}
use Rattle.hc_model.specs.declared.event.Event.TheVariants as event
use Rattle.hc_model.specs.declared.outcome.Outcome.{Outcome}
use Rattle.hc_model.specs.declared.outcome.Outcome.TheVariants.{Status}
use Rattle.hc_model.specs.declared.rewrite.Rule.{Rule}
use Rattle.hc_rw_eval.proofs.Finishing.{begins_below, some_rounds}
use Rattle.hc_rw_eval.proofs.Turns.{assoc}
use Rattle.hc_rw_eval.specs.Lists.{begun, from_place, most_rounds, next_round, rounds_from, run_rules}
use Rattle.hc_rw_eval.specs.declared.attempt.Rewritten.{Rewritten}
use Rattle.hc_rw_eval.specs.declared.run.Finished.{Finished}
use Rattle.hc_rw_eval.specs.declared.run.NextRound.{NextRound}
use Rattle.hc_rw_eval.specs.declared.run.Round.{Round}
use Rattle.hc_rw_eval.specs.declared.run.Round.TheVariants.{Again, Over}
use Rattle.hc_rw_expand.specs.Contexts.{Context}
use Rattle.hc_rw_expand.specs.Lookups.{Looks}
use Rattle.hc_rw_expand.specs.declared.state.RwState.{RwState}
use Rattle.hc_serve.specs.DirectoryRules.{context_in, ruling_dir, state_in}
use Rattle.hc_serve.specs.Passing.{admitted, finished, finished_there, followed_by, passed_from, reached_from}
use Rattle.hc_serve.specs.Passing.{rewritten}
use Rattle.hc_serve.specs.Passing.{rewritten_there, ruled, rules_left, rules_run, rules_run_in, state_left, told_pass}
use Rattle.hc_serve.specs.Passing.{with_tree}
use Rattle.hc_serve.specs.Segments.{Cut, PassesAreSegments, at_pass, behind_dir_rules, behind_directory, behind_round}
use Rattle.hc_serve.specs.Segments.{behind_sections, behind_server, behind_server_rules, dir_round, from_dir_round}
use Rattle.hc_serve.specs.Segments.{from_pass, from_server_round, in_directory, in_server, one_round, segment, segments}
use Rattle.hc_serve.specs.Segments.{server_round}
use Rattle.hc_serve.specs.ServerRules.{context_at, engine_at, looks_of, maps_at, rules_at, state_at}
use Rattle.hc_serve.specs.Site.{Site}
use Rattle.hc_serve.specs.declared.admission.TheConstants.{FORBIDDEN}
use Rattle.hc_serve.specs.declared.stage.Ended.{Ended}
use Rattle.hc_serve.specs.declared.stage.Here.{Here}
use Rattle.hc_serve.specs.declared.stage.Pass.{Pass}
use Rattle.hc_serve.specs.declared.stage.Placed.{Placed}
use Rattle.hc_serve.specs.declared.stage.Placed.TheVariants as placed
use Rattle.hc_serve.specs.declared.stage.Restarted.{Restarted}
use Rattle.hc_steps.proofs.Running.{in_turn}
use Rattle.hc_steps.specs.Run.{Way, goes_on, is_over, on_way, run, saying}
use Rattle.hc_steps.specs.Step.{Shown, Step, ends, leaves, look, say, told, ◌>>=◌}

-- ---- steps that end in another way

pub ending_then : {E F A B : Type 0} (end : E → F) (s : Step E A) (f : A → Step E B)
    → ending end (s >>= f) ≡ ending end s >>= (λ a. ending end (f a))
unfolding ◌>>=◌ ending
ending_then end (leaves a) f = refl
ending_then end (ends e) f = refl
ending_then end (say event s) f = ap (say event) (ending_then end s f)
ending_then end (look read s) f = λ i. look read (λ shown. ending_then end (s shown) f i)

pub parted : {E F A B C : Type 0} (end : E → F) (s : Step E A) (f : A → Step E B) (g : B → Step F C)
    → ending end (s >>= f) >>= g ≡ ending end s >>= (λ a. ending end (f a) >>= g)
parted end s f g = ap (λ s. s >>= g) (ending_then end s f) ∙ assoc (ending end s) (λ a. ending end (f a)) g

goes_without : {E F A : Type 0} (end : E → F) (s : Step E A) (w : Shown) (a : A)
    → (run (ending end s) w).way ≡ goes_on a → (run s w).way ≡ goes_on a
goes_without {E} {F} {A} end s w a is = back (run s w).way (ap (λ run. run.way) (sym (run_ending end s w)) ∙ is)
  where
    back : (way : Way E A) → end_way end way ≡ goes_on a → way ≡ goes_on a
    back (goes_on b) same = cc same
    back (is_over e) same = absurd (cc same)

module _ (site : Site) (w : Shown) where
  abbrev looks : Looks
  looks = looks_of (maps_at site)

  -- What leads to a cut, and so many segments behind it, come to what the whole does.
  record Leads (front whole : Step Ended Cut) : Type 0 where
    count : ℕ
    same : run whole w ≡ run (front >>= segments count site) w

  leads_as : (front : Step Ended Cut) {one other : Step Ended Cut} → one ≡ other → Leads front other
      → Leads front one
  leads_as front is led = subst (Leads front) (sym is) led

  module _ {A : Type 0} (s : Step Ended A) (front whole : A → Step Ended Cut) where
    after : ℕ → A → Step Ended Cut
    after count a = front a >>= segments count site

    at_way : (count : ℕ) (way : Way Ended A) → (run s w).way ≡ way
        → on_way (run s w) way (λ a. run (whole a) w) ≡ on_way (run s w) way (λ a. run (after count a) w)
        → run (s >>= whole) w ≡ run ((s >>= front) >>= segments count site) w
    unfolding after
    at_way count way is same =
        in_turn s whole w ∙ ap (λ way. on_way (run s w) way (λ a. run (whole a) w)) is ∙ same
        ∙ ap (λ way. on_way (run s w) way (λ a. run (after count a) w)) (sym is) ∙ sym (in_turn s (after count) w)
        ∙ ap (λ s. run s w) (sym (assoc s front (segments count site)))

    by_way : (way : Way Ended A) → (run s w).way ≡ way
        → ((a : A) → (run s w).way ≡ goes_on a → Leads (front a) (whole a))
        → Leads (s >>= front) (s >>= whole)
    unfolding after
    by_way (goes_on a) is each =
        let led = each a is in
        record {
          count = led.count;
          same = at_way led.count (goes_on a) is
              (ap (λ next. on_way (run s w) (goes_on a) (λ _. next)) led.same);
        }
    by_way (is_over e) is each = record { count = 0; same = at_way 0 (is_over e) is refl }

    leads : ((a : A) → (run s w).way ≡ goes_on a → Leads (front a) (whole a))
        → Leads (s >>= front) (s >>= whole)
    leads each = by_way (run s w).way refl each

  -- From a cut on.
  record Comes (cut : Cut) (whole : Step Ended Cut) : Type 0 where
    count : ℕ
    same : run whole w ≡ run (segments count site cut) w

  at_cut : (cut : Cut) (whole : Step Ended Cut) → Comes cut whole → Leads (leaves cut) whole
  unfolding ◌>>=◌
  at_cut cut whole comes = record { count = comes.count; same = comes.same }

  behind_event : (event : Event) (cut : Cut) (whole : Step Ended Cut) → Comes cut whole
      → Leads (told event cut) (say event whole)
  unfolding ◌>>=◌ run
  behind_event event cut whole comes = record { count = comes.count; same = ap (saying event) comes.same }

  from_cut : (cut : Cut) (whole : Step Ended Cut) → Leads (segment site cut) whole → Comes cut whole
  unfolding segments
  from_cut cut whole led = record { count = suc led.count; same = led.same }

  -- ---- the rounds of a list

  module _ (end : Outcome → Ended) (context : Context) (rules : List Rule) (over whole : Finished → Step Ended Cut)
      (cut : ℕ → NextRound → Cut)
      (is_last : (finished : Finished) → Leads (over finished) (whole finished))
      (at : (round : ℕ) (next : NextRound) → segment site (cut round next)
      ≡ one_round end site context rules over cut round next.left) where
    all_rounds : ℕ → ℕ → Rewritten → Step Ended Cut
    all_rounds more round left = ending end (rounds_from more context looks rules round left) >>= whole

    behind : ℕ → ℕ → Round → Step Ended Cut
    behind more round came =
        ending end (next_round (λ round left. rounds_from more context looks rules round left) round came) >>= whole

    Further : ℕ → ℕ → Type 0
    Further more round =
        (next : NextRound) → round < most_rounds rules
        → Leads (told (event.Round (round + 1)) (cut (round + 1) next)) (behind more round (Again next))

    by_round : (more round : ℕ) (left : Rewritten) → Further more round → (came : Round)
        → (run (ending end (from_place context looks round 0 rules left)) w).way ≡ goes_on came
        → Leads (behind_round over cut round came) (behind more round came)
    unfolding Further behind next_round behind_round ending ◌>>=◌
    by_round more round left again (Over finished) is = is_last finished
    by_round more round left again (Again next) is =
        again next
        (begins_below context looks w rules round left next
        (goes_without end (from_place context looks round 0 rules left) w (Again next) is))

    round_leads : (more round : ℕ) (left : Rewritten) → Further more round
        → Leads (one_round end site context rules over cut round left) (all_rounds (suc more) round left)
    unfolding one_round all_rounds behind rounds_from
    round_leads more round left again =
        let once = from_place context looks round 0 rules left in
        leads_as (one_round end site context rules over cut round left)
        (parted end once (next_round (λ round left. rounds_from more context looks rules round left) round) whole)
        (leads (ending end once) (behind_round over cut round) (behind more round) (by_round more round left again))

    rounds_lead : (more round : ℕ) (left : Rewritten) → most_rounds rules ≤ round + more
        → Leads (one_round end site context rules over cut round left) (all_rounds (suc more) round left)
    unfolding Further all_rounds behind next_round ◌>>=◌ ending
    rounds_lead zero round left bound = round_leads zero round left (λ next less. absurd (omega (arith, bound, less)))
    rounds_lead (suc more) round left bound = round_leads (suc more) round left (λ next less.
        let rest = all_rounds (suc more) (round + 1) next.left in
        behind_event (event.Round (round + 1)) (cut (round + 1) next) rest
        (from_cut (cut (round + 1) next) rest (subst (λ front. Leads front rest) (sym (at (round + 1) next))
        (rounds_lead more (round + 1) next.left (omega (arith, bound))))))

    list_leads : (state : RwState)
        → Leads (one_round end site context rules over cut 1 (begun state))
        (ending end (run_rules context looks rules state) >>= whole)
    unfolding run_rules all_rounds
    list_leads state =
        leads_as (one_round end site context rules over cut 1 (begun state))
        (ap (λ most. ending end (rounds_from most context looks rules 1 (begun state)) >>= whole) (some_rounds rules))
        (rounds_lead (most_rounds rules - 1) 1 (begun state) (omega arith))

  -- ---- a pass, with so many behind it

  passes_on : ℕ → Restarted → Step Ended Cut
  passes_on most left = passes most site left >>= λ left. leaves (at_pass left)

  module _ (most : ℕ) (each : (left : Restarted) → Comes (at_pass left) (passes_on most left)) where
    module _ (here : Here) where
      abbrev there : Outcome → Ended
      there = with_tree here.force.require

      directory_on : Option RwState → Step Ended Cut
      directory_on left =
          ending there (finished_there site here left) >>= λ pass. passes_on most (followed_by here.force.require pass)

      directory_leads : (left : Option RwState) → Leads (behind_directory site here left) (directory_on left)
      unfolding behind_directory directory_on
      directory_leads left =
          leads (ending there (finished_there site here left)) _
          (λ pass. passes_on most (followed_by here.force.require pass))
          (λ pass is. at_cut (at_pass (followed_by here.force.require pass)) _
          (each (followed_by here.force.require pass)))

      if_followed : (dir : List ℕ) (follow : Bool)
          → Leads
          (if follow then from_dir_round site here dir 1 (begun (state_in here)) else ends (there (Status FORBIDDEN)))
          (ending there (if follow then rules_left site here dir else ends (Status FORBIDDEN)) >>= directory_on)
      unfolding rules_left from_dir_round segment ending ◌>>=◌
      if_followed dir true =
          leads_as (from_dir_round site here dir 1 (begun (state_in here)))
          (parted there
          (run_rules (context_in site here dir) looks here.force.rules (state_in here)) state_left directory_on)
          (list_leads there (context_in site here dir) here.force.rules (behind_dir_rules site here)
          (λ run. directory_on (Some run.left.state))
          (dir_round here dir) (λ run. directory_leads (Some run.left.state)) (λ round next. refl) (state_in here))
      if_followed dir false = record { count = 0; same = refl }

      in_directory_leads : (dir : Option (List ℕ))
          → Leads (in_directory site here dir) (ending there (ruled site here dir) >>= directory_on)
      unfolding in_directory ruled rules_run_in ending ◌>>=◌
      in_directory_leads None = directory_leads None
      in_directory_leads (Some dir) = if_followed dir here.force.follow

    sections_on : Here → Step Ended Cut
    sections_on here = passed_from site here >>= passes_on most

    sections_lead : (here : Here) → Leads (behind_sections site here) (sections_on here)
    unfolding behind_sections sections_on passed_from passed_there rewritten_there directory_on ◌>>=◌
    sections_lead here =
        let next = λ (pass : Pass). passes_on most (followed_by here.force.require pass) in
        leads_as (behind_sections site here)
        (assoc (ending (there here) (passed_there site here)) (λ pass. leaves (followed_by here.force.require pass))
        (passes_on most)
        ∙ parted (there here) (admitted site here) (λ _. rewritten_there site here >>= finished_there site here) next
        ∙ ap (λ rest. ending (there here) (admitted site here) >>= λ _. rest)
        (parted (there here) (rewritten_there site here) (finished_there site here) next))
        (leads (ending (there here) (admitted site here)) (λ _. in_directory site here (ruling_dir here)) _
        (λ _ is. in_directory_leads here (ruling_dir here)))

    abbrev before : Outcome → Ended
    before = with_tree None

    server_on : Placed → Step Ended Cut
    server_on placed = ending before (reached_from site placed) >>= sections_on

    server_leads : (placed : Placed) → Leads (behind_server site placed) (server_on placed)
    unfolding behind_server server_on
    server_leads placed =
        leads (ending before (reached_from site placed)) (behind_sections site) sections_on
        (λ here is. sections_lead here)

    server_rules_lead : (pass : Pass) (run : Finished)
        → Leads (behind_server_rules site pass run) (ending before (finished site pass run) >>= server_on)
    unfolding behind_server_rules
    server_rules_lead pass run =
        leads (ending before (finished site pass run)) (behind_server site) server_on
        (λ placed is. server_leads placed)

    if_on : (pass : Pass) (engine : Bool)
        → Leads
        (if engine then from_server_round site pass 1 (begun (state_at pass))
        else behind_server site (placed.Unnamed pass))
        (ending before (if engine then rules_run site pass else leaves (placed.Unnamed pass)) >>= server_on)
    unfolding rules_run from_server_round segment ending ◌>>=◌
    if_on pass true =
        leads_as (from_server_round site pass 1 (begun (state_at pass)))
        (parted before (run_rules (context_at site pass) looks (rules_at site) (state_at pass))
        (finished site pass) server_on)
        (list_leads before (context_at site pass) (rules_at site) (behind_server_rules site pass)
        (λ run. ending before (finished site pass run) >>= server_on)
        (server_round pass) (server_rules_lead pass) (λ round next. refl) (state_at pass))
    if_on pass false = server_leads (placed.Unnamed pass)

    pass_leads : (left : Restarted) → Leads (from_pass site left.pass) (passes_on (suc most) left)
    unfolding from_pass in_server passes passed reached rewritten passes_on sections_on server_on
    pass_leads left =
        leads_as (from_pass site left.pass)
        (assoc (passed site left.pass) (passes most site) (λ left. leaves (at_pass left))
        ∙ assoc (ending before (reached site left.pass)) (passed_from site) (passes_on most)
        ∙ parted before (told_pass left.pass) (λ pass. rewritten site pass >>= reached_from site) sections_on
        ∙ (λ i. ending before (told_pass left.pass) >>= λ pass. parted before (rewritten site pass)
        (reached_from site) sections_on i))
        (leads (ending before (told_pass left.pass)) (in_server site)
        (λ pass. ending before (rewritten site pass) >>= server_on) (λ pass is. if_on pass (engine_at site)))

  passes_come : (most : ℕ) (left : Restarted) → Comes (at_pass left) (passes_on most left)
  unfolding passes_on passes segments segment ◌>>=◌
  passes_come zero left = record { count = 0; same = refl }
  passes_come (suc most) left = from_cut (at_pass left) _ (pass_leads most (passes_come most) left)

pub passes_are_segments : PassesAreSegments
unfolding passes_on
passes_are_segments site w most left = let comes = passes_come site w most left in (comes.count, comes.same)
