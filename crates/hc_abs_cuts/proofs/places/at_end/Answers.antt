use Rattle.hc_abs_cuts.proofs.Common.{◌≡◌, ◌∙◌, [], Option, None, Some, true, false, refl, sym, ap, subst}
use Rattle.std.specs.Option.{is_some}
use Rattle.hc_base.specs.declared.place.Refusal.{Refusal}
use Rattle.hc_htaccess.specs.Reading.{reading_in}
use Rattle.hc_merge.specs.Overriding.{files_read, wanted_by}
use Rattle.hc_model.specs.declared.walk.Walk.{Walk}
use Rattle.hc_abs_left.specs.Grounds.{world_in}
use Rattle.hc_abs_run.proofs.Common.{first_refused}
use Rattle.hc_abs_cuts.proofs.Placing.{Led, end_led, refused_later, sections_later}
use Rattle.hc_abs_cuts.specs.Coded.{AreSectioned, IsAtEnd}
use Rattle.hc_abs_cuts.proofs.places.at_end.Goals as goal

some_refused : (given : Option Refusal) → is_some given ≡ true → (refusal : Refusal) × (given ≡ Some refusal)
some_refused None is = absurd (let none = is in cc)
some_refused (Some refusal) is = (refusal, refl)

none_refused : (given : Option Refusal) → is_some given ≡ false → given ≡ None
none_refused None is = refl
none_refused (Some refusal) is = absurd (let some = is in cc)

pub returns-in_default-clause-places : goal.returns-in_default-clause-places
returns-in_default-clause-places g c =
    end_led c.args.ground c.args.dir.now c.args.end c.args.tied.now c.in_ok-set.set c.in_ok-set.ensures None
    (rw c.in_default.is at c.in_ok-tied.ensures) _ c.new.ensures.items

pub returns-then-is_some-clause-places : goal.returns-then-is_some-clause-places
returns-then-is_some-clause-places g c =
    let ground = c.args.ground in
    let refused = some_refused c.in_ok-refused.refused (sym c.is_some.ensures ∙ c.if-is_some.true) in
    subst (IsAtEnd ground c.args.dir.now c.args.tied.now c.args.end) (sym c.new-then-is_some.ensures.items)
    (end_led ground c.args.dir.now c.args.end c.args.tied.now c.in_ok-set.set c.in_ok-set.ensures (Some c.in-Some.tied)
    (rw c.in-Some.is at c.in_ok-tied.ensures) []
    (λ levels end now kind dirs ends. refused_later ground c.args.dir.now c.args.end c.in_ok-refused.refused
    (c.in_ok-refused.ensures.refusal
    ∙ ap (λ reading. first_refused reading (wanted_by ground.config.now ground.host c.args.end.dirs))
    c.requires.over.0) levels end refused.0 now refused.1 dirs))

pub returns-clause-places : goal.returns-clause-places
returns-clause-places g c =
    let ground = c.args.ground in
    let walk : Walk = record {
      name = c.new-2.result;
      info = c.new-3.result;
      kind = c.args.end.kind;
      dirs = c.args.end.dirs;
    } in
    end_led ground c.args.dir.now c.args.end c.args.tied.now c.in_ok-set.set c.in_ok-set.ensures (Some c.in-Some.tied)
    (rw c.in-Some.is at c.in_ok-tied.ensures) c.in_ok-found.found.items
    (λ levels end now kind dirs ends. sections_later ground c.args.dir.now c.args.end c.in_ok-refused.refused
    (c.in_ok-refused.ensures.refusal
    ∙ ap (λ reading. first_refused reading (wanted_by ground.config.now ground.host c.args.end.dirs))
    c.requires.over.0) levels end walk c.in-Some.tied c.in_ok-found.found.items now
    (none_refused c.in_ok-refused.refused (sym c.is_some.ensures ∙ c.if-is_some.false)) kind dirs dirs
    (subst (λ reading. AreSectioned ground c.args.dir.now walk (files_read reading) c.in-Some.tied
    c.in_ok-found.found.items)
    (ap g.O.Overrides.reading c.refused_at.ensures.over.0 ∙ c.requires.over.0) c.in_ok-found.ensures) ends)
