use Rattle.std.proofs.Common.{◌++◌, [], refl, subst, sym, take}
use Rattle.std.proofs.lemmas.List.{take_all}
use Rattle.std.specs.Option.{option_to_list}
use Rattle.hc_pat_lang.specs.Sets.{AcceptsOnly}
use Rattle.hc_sent.proofs.Chaining.{all_gone, further, one_taken}
use Rattle.hc_sent.proofs.Leaving.{leads_accept, rest_fits}
use Rattle.hc_sent.proofs.Meeting.{reached_by, reached_last}
use Rattle.hc_sent.specs.Sites.{FitsNone}
use Rattle.hc_sent.specs.Ways.{AreReachedFrom}
use Rattle.hc_sent.proofs.leading.reached.Goals as goal

pub loop-origin-init : goal.loop-origin-init
loop-origin-init c =
    let hosts = c.args.hosts.now in
    record {
      left = λ text bytes. (
        (λ accepted. ((c.in_ok-left.ensures text bytes).0 accepted, refl)),
        (λ none. (c.in_ok-left.ensures text bytes).1 none.0),
      );
      found = λ more rest.
          subst (λ found. AreReachedFrom c.args.parts.now [] hosts (found ++ more))
          (sym c.new-found.ensures.items) rest;
    }

pub loop-origin-preserved : goal.loop-origin-preserved
loop-origin-preserved c =
    let parts = c.args.parts.now in
    let hosts = c.args.hosts.now in
    let at = c.loop-origin.origin-index in
    let origin = c.origin-item.result in
    let old = c.loop-origin.found.items in
    let before = take at hosts in
    let left = c.loop-origin.left in
    let leads = leads_accept parts before origin left c.in_ok-fits.fits c.in_ok-texts.texts
    c.loop-origin.invariant.left c.in_ok-fits.ensures c.in_ok-texts.ensures in
    let own = option_to_list c.in_ok-where_any.field-0 in
    let reached = reached_by parts before origin c.in_ok-texts.texts c.in_ok-where_any.field-0 leads
    c.in_ok-where_any.ensures in
    record {
      left = subst (λ before. AcceptsOnly (FitsNone parts before) c.in_ok-left-2.left)
          (sym (one_taken hosts at origin c.loop-origin-test.true c.origin-item.is))
          (rest_fits parts before origin left c.in_ok-fits.fits c.in_ok-left-2.left c.loop-origin.invariant.left
          c.in_ok-fits.ensures c.in_ok-left-2.ensures);
      found = λ more rest.
          subst (λ found. AreReachedFrom parts [] hosts (found ++ more)) (sym c.in_ok-add.ensures)
          (further (AreReachedFrom parts) hosts at origin old own c.loop-origin-test.true c.origin-item.is
          (λ more rest. (own, more, refl, reached, rest)) c.loop-origin.invariant.found more rest);
    }

pub returns : goal.returns
returns c =
    let parts = c.args.parts.now in
    let hosts = c.args.hosts.now in
    let left = subst (λ before. AcceptsOnly (FitsNone parts before) c.loop-origin.left)
    (take_all c.loop-origin.origin-index hosts c.loop-origin-test.false) c.loop-origin.invariant.left in
    subst (AreReachedFrom parts [] hosts) (sym c.in_ok-add-2.ensures)
    (all_gone (AreReachedFrom parts) hosts c.loop-origin.origin-index c.loop-origin.found.items _ c.loop-origin-test.false
    (reached_last parts hosts c.loop-origin.left c.in_ok-where_any-2.field-0 left c.in_ok-where_any-2.ensures)
    c.loop-origin.invariant.found)
