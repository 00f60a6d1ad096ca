-- What follows where the rules left another text than the file name.
use Rattle.hc_abs_restart.proofs.Common.{◌≡◌, ℕ, List, [], ◌∷◌, Bool, true, false, Option, None, Some, refl, sym, ap}
use Rattle.hc_abs_restart.proofs.Common.{subst, inl, Addr, Automaton, accepts, Accepts, IsText, set_in, Slot}
use Rattle.hc_abs_restart.proofs.Common.{AbsState, Tied, EndsAt, done}
use Rattle.std.specs.Option.{option_map}
use Rattle.std.specs.Prelude.{unwrap_or}
use Rattle.hc_base.specs.Paths.{has_dots, has_double_slash, merge_slashes}
use Rattle.hc_cells.specs.Cells.{holds}
use Rattle.hc_model.specs.declared.outcome.LimitKind.TheVariants.{Redirects}
use Rattle.hc_model.specs.declared.outcome.Reason.TheVariants.{DotSegment}
use Rattle.hc_pat_lang.specs.Sets.{AcceptsOnly}
use Rattle.hc_plan.proofs.Coded.{end_fits, joined_fits, make_fits, put_down_fits, take_up_fits}
use Rattle.hc_plan.specs.Branches.{renamed, without_texts}
unfoldable use Rattle.hc_plan.specs.Branches.{Branches}
use Rattle.hc_plan.specs.Coded.{AreBranches}
use Rattle.hc_plan.specs.Hands.{parts_of}
use Rattle.hc_plan.specs.Plan.{make, test, tidy}
unfoldable use Rattle.hc_plan.specs.Plan.{and_then}
use Rattle.hc_plan.specs.States.{any_of, open_slot, whole, with_text}
use Rattle.hc_plan.specs.Ways.{Stands}
use Rattle.hc_plan.specs.declared.hand.Element.TheVariants as element
use Rattle.hc_rw_expand.specs.Contexts.{engine_of}
use Rattle.hc_rw_expand.specs.declared.context.Engine.{Engine as LentEngine}
use Rattle.hc_rw_sets.specs.Made.{MadeOf}
use Rattle.hc_abs_rw.proofs.Images.{image_set, url_text}
use Rattle.hc_abs_rw.specs.Drafts.{slot_alone}
use Rattle.hc_abs_rw.specs.Templates.{main, slot_item}
use Rattle.hc_abs_pass.specs.Ends.{Left, found, left_of, limit, next_pass, outside, refused, sent, status}
use Rattle.hc_abs_pass.specs.Mapping.{over}
use Rattle.hc_abs_pass.specs.Mapping.{named as in_hand}
use Rattle.hc_abs_pass.specs.Naming.{tidy_plan}
use Rattle.hc_abs_pass.specs.Restarting.{at_start, begun_again, looked_at, pass_source, unless_last}
use Rattle.hc_abs_pass.specs.Walking.{HasName}
use Rattle.hc_abs_pass.specs.declared.ends.Left.{Left as LeftIn}
use Rattle.hc_abs_pass.specs.declared.ends.Left.TheVariants as left
use Rattle.hc_abs_pass.specs.declared.walk.Named.{Named}
use Rattle.hc_abs_map.specs.Along.{AreOn}
use Rattle.hc_abs_map.specs.Mapped.{AreTidied, MappedFits}
use Rattle.hc_abs_map.specs.Places.{IsStored}
use Rattle.hc_abs_map.specs.declared.mapped.Mapped.{Mapped}
use Rattle.hc_abs_map.specs.declared.mapped.Mapped.TheVariants as mapped
use Rattle.hc_abs_restart.proofs.Sets.{slot_has}
use Rattle.hc_abs_restart.specs.Following.{AreBehind, ArePaths, IsAfter, IsBehind, IsPlaced, behind_path, placed_in}
use Rattle.hc_abs_restart.specs.Following.{placed_plan, ready}
use Rattle.hc_abs_restart.specs.Restarted.{RestartedFits, is_among, placed_by}
use Rattle.hc_abs_restart.specs.Starting.{IsRenamed}
use Rattle.hc_abs_restart.specs.declared.restart.Restart.{Restart}
use Rattle.hc_abs_restart.specs.declared.restart.Restarted.{Restarted}

-- ---- the path in hand

module _ (restart : Restart) (texts : Automaton) where
  -- In the rules of a server texts are URL paths.
  pub own_paths : restart.engine ≡ None → ArePaths restart texts texts
  own_paths none = subst (λ engine. ArePaths (record restart { engine = engine }) texts texts) (sym none) (record {
    bytes = λ text bytes. bytes;
    made = λ x bytes. ((λ accepted. (x, bytes, accepted, refl)), (λ of. subst (λ x. accepts texts x ≡ true) (sym of.3) of.2));
  })

  pub url_paths_are : (engine : LentEngine) (paths : Automaton) → restart.engine ≡ Some engine
      → IsText (unwrap_or (option_map (λ base. base.now) engine.base) [])
      → AcceptsOnly (MadeOf (placed_by (option_map (λ root. root.now) restart.root) (Some (engine_of engine)))
      (accepts texts)) paths
      → ArePaths restart texts paths
  url_paths_are engine paths some base are =
      subst (λ engine. ArePaths (record restart { engine = engine }) texts paths) (sym some) (record {
        bytes = λ text bytes. url_text (option_map (λ root. root.now) restart.root) (engine_of engine) text base bytes;
        made = are;
      })

pub path_placed : (restart : Restart) (before : Tied) (texts paths : Automaton) (named : Named)
    → Accepts texts (holds before.cell Slot.Text) → ArePaths restart texts paths → named.tied ≡ before
    → named.text.items ≡ element.Free paths ∷ [] → named.side ≡ None → IsPlaced restart before named
path_placed restart before texts paths named of_text are same free none client state ends = (
  set_in paths,
  image_set (ready state) (whole (parts_of (slot_alone Slot.Text))) (placed_in restart) texts paths
      (slot_has before.cell Slot.Text texts state.cell ends.cell of_text) are.bytes are.made,
  record {
    text = record {
      stands =
          subst (λ tied. Stands tied.cell tied.ties named.text.items 0 named.side next main) (sym same)
          (subst (λ items. Stands before.cell before.ties items 0 named.side next main) (sym free)
          (subst (λ side. Stands before.cell before.ties (element.Free paths ∷ []) 0 side next main) (sym none)
          (record {
            holds = ends.cell;
            tied = ends.ties;
            hand = record { made = refl; behind = refl; lies = inl (λ x bytes. refl) };
          })));
      looked = ap (λ given. given.third) ends.given;
      printed = ends.printed;
    };
    given = ends.given;
  },
)
  where
    next : AbsState
    next = with_text (ready state) main (any_of (set_in paths))

-- ---- ends

module _ (restart : Restart) where
  abbrev names : List ℕ → Bool
  names = is_among restart.names.now

  led : and_then (tidy_plan over (done (in_hand false))) (behind_path restart) ≡ begun_again restart.last names
  unfolding and_then
  led = λ i. tidy main has_double_slash merge_slashes (test main has_dots (λ dots. each dots i))
    where
      each : (dots : Bool) → and_then (elim dots [
        | true ↦ done (over (outside DotSegment))
        | false ↦ done (in_hand false)
      ]) (behind_path restart) ≡ elim dots [
        | true ↦ done (outside DotSegment)
        | false ↦ unless_last restart.last names
      ]
      each true = refl
      each false = refl

  -- An end is one of the pass.
  pub end_behind : (one : Mapped) (tied : Tied) (end : LeftIn) → one ≡ mapped.Over tied end
      → IsBehind restart one (record { tied = tied; left = end })
  end_behind one tied end is =
      subst (λ one. IsBehind restart one made) (sym is) (λ client branch fits.
      subst (λ placing. AreBranches (RestartedFits client) (behind_path restart placing) branch.0 (made ∷ []))
      (sym fits.1) (by client branch.0 fits.0 (left_of end) refl))
    where
      made : Restarted
      made = record { tied = tied; left = end }

      by : (client : Option Addr) (state : AbsState) → EndsAt client tied state → (left : Left) → left ≡ left_of end
          → AreBranches (RestartedFits client) (behind_path restart (over left)) state (made ∷ [])
      by client state ends next_pass same =
          put_down_fits (RestartedFits client) state (done next_pass) (made ∷ [])
          (end_fits (RestartedFits client) (without_texts state) next_pass made (record {
            at = record { cell = ends.cell; ties = ends.ties; given = ends.given; printed = ends.printed };
            left = same;
            texts = refl;
          }))
      by client state ends (status number) same =
          end_fits (RestartedFits client) state (status number) made (record { at = ends; left = same; texts = tt })
      by client state ends (outside reason) same =
          end_fits (RestartedFits client) state (outside reason) made (record { at = ends; left = same; texts = tt })
      by client state ends (found kind) same =
          end_fits (RestartedFits client) state (found kind) made (record { at = ends; left = same; texts = tt })
      by client state ends (sent redirect) same =
          end_fits (RestartedFits client) state (sent redirect) made (record { at = ends; left = same; texts = tt })
      by client state ends (refused refusal) same =
          end_fits (RestartedFits client) state (refused refusal) made (record { at = ends; left = same; texts = tt })
      by client state ends (limit kind) same =
          end_fits (RestartedFits client) state (limit kind) made (record { at = ends; left = same; texts = tt })

  pub name_behind : (one : Mapped) (named : Named) (aliased : Bool) (made : Restarted)
      → one ≡ mapped.Name named aliased → IsAfter restart named made → IsBehind restart one made
  name_behind one named aliased made is after =
      subst (λ one. IsBehind restart one made) (sym is) (λ client branch fits.
      subst (λ placing. AreBranches (RestartedFits client) (behind_path restart placing) branch.0 (made ∷ []))
      (sym fits.1) (after client branch.0 fits.0))

  abbrev AfterAs : Bool → Named → Restarted → Type 0
  AfterAs last named made = (client : Option Addr) (state : AbsState) → HasName named client state
      → AreBranches (RestartedFits client) (unless_last last names) state (made ∷ [])

  -- No pass may follow.
  pub limit_reached : (named : Named) (made : Restarted) → restart.last ≡ true → made.tied ≡ named.tied
      → made.left ≡ left.Limit Redirects → IsAfter restart named made
  limit_reached named made last tied end =
      subst (λ last. AfterAs last named made) (sym last) (λ client state has.
      end_fits (RestartedFits client) state (limit Redirects) made (record {
        at = subst (λ tied. EndsAt client tied state) (sym tied) (record {
          cell = has.text.stands.holds;
          ties = has.text.stands.tied;
          given = has.given;
          printed = has.text.printed;
        });
        left = ap left_of (sym end);
        texts = tt;
      }))

  -- A pass follows by the path.
  pub pass_follows : (named : Named) (stored tied : Tied) → restart.last ≡ false → IsStored named stored
      → IsRenamed stored restart.names.now tied
      → IsAfter restart named (record { tied = tied; left = left.NextPass })
  unfolding Branches
  pass_follows named stored tied last stores renames =
      subst (λ last. AfterAs last named made) (sym last) (λ client state has.
      let is = stores client state has in
      let after = renamed is.0 pass_source (looked_at names) at_start in (
        (after, next_pass) ∷ [],
        (is.0, is.1, refl),
        (
          (after, next_pass),
          [],
          refl,
          record { at = renames client is.0 is.2; left = refl; texts = refl },
          refl,
        ),
      ))
    where
      made : Restarted
      made = record { tied = tied; left = left.NextPass }

  pub others_fit : (before : Tied) (path : Named) (tidied : List Mapped) (made : List Restarted)
      → IsPlaced restart before path → AreTidied path false tidied → AreBehind restart tidied made
      → AreOn RestartedFits (Some before) (placed_plan restart) made
  others_fit before path tidied made placed are behind client state ends =
      let of = placed client state ends in
      let next = with_text (ready state) main (any_of of.0) in
      take_up_fits (RestartedFits client) state main (slot_item Slot.Text ∷ []) (parts_of (slot_alone Slot.Text))
      (make main (λ text also. placed_in restart text) main main (begun_again restart.last names)) made
      (open_slot Slot.Text 0, [], refl, refl, refl)
      (make_fits (RestartedFits client) (ready state) main (λ text also. placed_in restart text) main main of.0
      (begun_again restart.last names) made of.1
      (subst (λ plan. AreBranches (RestartedFits client) plan next made) led
      (joined_fits (MappedFits client) (RestartedFits client) (behind_path restart)
      (tidy_plan over (done (in_hand false))) next tidied made (are client next of.2) (behind client))))
