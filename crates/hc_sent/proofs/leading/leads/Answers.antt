use Rattle.std.proofs.Common.{◌++◌, [], refl, subst, sym, take}
use Rattle.std.proofs.lemmas.List.{take_all}
use Rattle.hc_pat_lang.specs.Sets.{AcceptsOnly}
use Rattle.hc_sent.proofs.Chaining.{all_gone, further, one_taken}
use Rattle.hc_sent.proofs.Leaving.{leads_accept, rest_fits}
use Rattle.hc_sent.proofs.Meeting.{led_last}
use Rattle.hc_sent.specs.Joints.{AreJoints}
use Rattle.hc_sent.specs.Sites.{FitsNone}
use Rattle.hc_sent.specs.Ways.{AreLedFrom}
use Rattle.hc_sent.proofs.leading.leads.Goals as goal

pub loop-origin-init : goal.loop-origin-init
loop-origin-init c =
    let hosts = c.args.hosts.now in
    record {
      left = λ text bytes. (
        (λ accepted. ((c.in_ok-left.ensures text bytes).0 accepted, refl)),
        (λ none. (c.in_ok-left.ensures text bytes).1 none.0),
      );
      found = λ more rest.
          subst (λ found. AreLedFrom c.args.parts.now [] hosts (found ++ more)) (sym c.new-found.ensures.items) rest;
    }

pub loop-origin-preserved : goal.loop-origin-preserved
loop-origin-preserved c =
    let parts = c.args.parts.now in
    let hosts = c.args.hosts.now in
    let at = c.loop-origin.origin-index in
    let origin = c.origin-item.result in
    let old = c.loop-origin.found.items in
    let before = take at hosts in
    let left = c.loop-origin.left in
    let leads = leads_accept parts before origin left c.in_ok-fits.fits c.in_ok-texts.texts
    c.loop-origin.invariant.left c.in_ok-fits.ensures c.in_ok-texts.ensures in
    let joints = subst (AreJoints [] parts) (sym c.deref.ensures.value) c.in_ok-joints.ensures in
    let added = c.in_ok-add_led.ensures parts before joints leads in
    record {
      left = subst (λ before. AcceptsOnly (FitsNone parts before) c.in_ok-left-2.left)
          (sym (one_taken hosts at origin c.loop-origin-test.true c.origin-item.is))
          (rest_fits parts before origin left c.in_ok-fits.fits c.in_ok-left-2.left c.loop-origin.invariant.left
          c.in_ok-fits.ensures c.in_ok-left-2.ensures);
      found = λ more rest.
          subst (λ found. AreLedFrom parts [] hosts (found ++ more)) (sym added.1)
          (further (AreLedFrom parts) hosts at origin old added.0 c.loop-origin-test.true c.origin-item.is
          (λ more rest. (added.0, more, refl, added.2, rest)) c.loop-origin.invariant.found more rest);
    }

pub returns : goal.returns
returns c =
    let parts = c.args.parts.now in
    let hosts = c.args.hosts.now in
    let left = subst (λ before. AcceptsOnly (FitsNone parts before) c.loop-origin.left)
    (take_all c.loop-origin.origin-index hosts c.loop-origin-test.false) c.loop-origin.invariant.left in
    subst (AreLedFrom parts [] hosts) (sym c.in_ok-add.ensures)
    (all_gone (AreLedFrom parts) hosts c.loop-origin.origin-index c.loop-origin.found.items _ c.loop-origin-test.false
    (led_last parts hosts c.loop-origin.left c.in_ok-where_any.field-0 left c.in_ok-where_any.ensures)
    c.loop-origin.invariant.found)
