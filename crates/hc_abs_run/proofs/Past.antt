-- A round of the server's list of rules.
use Rattle.hc_abs_run.proofs.Common.{◌≡◌, ◌∙◌, ℕ, List, [], ◌∷◌, ◌++◌, Bool, Option, None, option_map, refl, sym}
use Rattle.hc_abs_run.proofs.Common.{subst, Branch, AreBranches, done, Tied, merges, Stands, ground_in}
use Rattle.hc_abs_run.proofs.Common.{Are, SegmentFits, LentGround, Segment, End}
use Rattle.std.proofs.Common.{Bor}
use Rattle.hc_alias.specs.Mapping.{root_of}
use Rattle.hc_map.specs.Maps.{look_up}
use Rattle.hc_model.specs.declared.rewrite.Rule.{Rule}
use Rattle.hc_plan.proofs.Coded.{end_fits, joined_fits, next_added}
use Rattle.hc_serve.specs.ServerRules.{rules_of}
use Rattle.hc_vhost.specs.Servers.{servers_of}
use Rattle.hc_abs_left.proofs.Framing.{frame_is, lent_frame}
use Rattle.hc_abs_left.specs.declared.segment.Finish.TheVariants as finish
use Rattle.hc_abs_pass.specs.Listing.{AreListed, ListedFits, so_far_of}
use Rattle.hc_abs_pass.specs.Passing.{finished_so, frame_by, placed_from, ruled, server_left, server_round}
unfoldable use Rattle.hc_abs_pass.specs.Passing.{server_round_plan}
use Rattle.hc_abs_pass.specs.declared.list.Listed.{Listed}
use Rattle.hc_abs_pass.specs.declared.list.SoFar.{SoFar}
use Rattle.hc_abs_pass.specs.declared.list.Stop.{Stop}
use Rattle.hc_abs_pass.specs.declared.list.Stop.TheVariants as stop
use Rattle.hc_abs_rw.specs.Applied.{next_of}
use Rattle.hc_abs_rw.specs.Around.{kind_in, texts_in}
use Rattle.hc_abs_rw.specs.Known.{frame_at}
use Rattle.hc_abs_rw.specs.Lists.{list_plan}
use Rattle.hc_abs_rw.specs.declared.apply.Next.{Next}
use Rattle.hc_abs_name.proofs.Clients.{with_clients}
use Rattle.hc_abs_run.proofs.Resting.{rests_end}
use Rattle.hc_abs_run.specs.Lists.{AllPast, ArePast, ListedAt, listed_of}
use Rattle.hc_abs_run.specs.Running.{AreOf, AreServerRound}

module _ (ground : LentGround) where
  abbrev Fit : Segment → Branch End → Type 0
  Fit = SegmentFits ground.client ground.tests.now

  -- ---- behind a branch of the list

  module _ (one : Listed) (found : List Segment) where
    past_by : (own : Stop) → one.stop ≡ own
        → AreOf ground (λ ground'. server_left ground' (listed_of ground.tests.now (record one { stop = own }))) one.tied
        found
        → ArePast ground one found
    past_by own is are = subst (λ own. AreOf ground
        (λ ground'. server_left ground' (listed_of ground.tests.now (record one { stop = own }))) one.tied found)
        (sym is) are

    pub past_over : (passed : Bool) → one.stop ≡ stop.Over passed
        → AreOf ground (λ own. placed_from own (one.left).decisions (one.left).substituted passed) one.tied found
        → ArePast ground one found
    past_over passed is are = past_by (stop.Over passed) is are

    pub past_again : (rule : Bor Rule) → one.stop ≡ stop.Again rule
        → found ≡ record {
          tied = one.tied;
          decisions = (one.left).decisions;
          require = None;
          finish = finish.ServerRound rule.now one.left;
        } ∷ []
        → ArePast ground one found
    past_again rule is same = past_by (stop.Again rule) is (λ levels state whole clients rests.
        subst (AreBranches Fit
        (done (finished_so None (one.left).decisions (server_round rule.now (so_far_of one.left)))) state) (sym same)
        (end_fits Fit state (finished_so None (one.left).decisions (server_round rule.now (so_far_of one.left))) (record {
          tied = one.tied;
          decisions = (one.left).decisions;
          require = None;
          finish = finish.ServerRound rule.now one.left;
        }) (record {
          at = rests_end ground.client one.tied state rests;
          texts = rests.texts;
          decided = refl;
          require = refl;
          finish = refl;
        })))

    pub past_answered : (next : Next) → one.stop ≡ stop.Answered next
        → found ≡ record {
          tied = one.tied;
          decisions = (one.left).decisions;
          require = None;
          finish = finish.Ruled next;
        } ∷ []
        → ArePast ground one found
    past_answered next is same = past_by (stop.Answered next) is (λ levels state whole clients rests.
        subst (AreBranches Fit
        (done (finished_so None (one.left).decisions (ruled (next_of ground.tests.now next)))) state) (sym same)
        (end_fits Fit state (finished_so None (one.left).decisions (ruled (next_of ground.tests.now next))) (record {
          tied = one.tied;
          decisions = (one.left).decisions;
          require = None;
          finish = finish.Ruled next;
        }) (record {
          at = rests_end ground.client one.tied state rests;
          texts = rests.texts;
          decided = refl;
          require = refl;
          finish = refl;
        })))

  -- ---- behind the list

  pub past_more : (earlier : List Listed) (one : Listed) (found more after : List Segment)
      → AllPast ground earlier found → after ≡ found ++ more → ArePast ground one more
      → AllPast ground (earlier ++ one ∷ []) after
  past_more earlier one found more after are same is levels whole =
      let own = ground_in levels merges ground in
      next_added (ListedAt ground) Fit (server_left own) earlier one found after (are levels whole) (
        more,
        same,
        (λ branch fits.
            subst (λ listed. Are ground (server_left own listed) branch.0 more) (sym fits.0.1)
            (is levels branch.0 whole fits.1 fits.0.0)),
      )

  pub round_fits : (root : Option (Bor (List ℕ))) (rules : List Rule) (so_far : SoFar) (tied : Tied)
      (listed : List Listed) (found : List Segment) → Stands ground
      → option_map (λ root. root.now) root ≡ root_of (servers_of ground.config.now ground.host)
      → rules ≡ rules_of ground.config.now ground.host
      → AreListed (frame_at (λ around. kind_in around.world.now.files)
      (λ around. look_up around.maps.now (texts_in around.world.now.files)) (lent_frame ground root None))
      ground.client rules so_far tied listed
      → AllPast ground listed found → AreServerRound ground so_far tied found
  unfolding server_round_plan
  round_fits root rules so_far tied listed found stands same in_force are past levels state whole clients rests =
      let own = ground_in levels merges ground in
      let plan = list_plan (frame_by own None) 0 (rules_of ground.config.now ground.host) (so_far_of so_far) in
      joined_fits (ListedAt ground) Fit (server_left own) plan state listed found
      (with_clients (ListedFits ground.client ground.tests.now) (ListedAt ground) plan state listed
      (subst (λ caller. AreBranches (ListedFits ground.client caller) plan state listed) stands.caller
      (subst (λ frame. AreListed frame ground.client (rules_of ground.config.now ground.host) so_far tied listed)
      (frame_is ground root None levels merges stands same)
      (subst (λ rules. AreListed (frame_at (λ around. kind_in around.world.now.files)
      (λ around. look_up around.maps.now (texts_in around.world.now.files)) (lent_frame ground root None))
      ground.client rules so_far tied listed) in_force are) state rests))
      (λ one branch fits same. (fits, same ∙ clients))) (past levels whole)
