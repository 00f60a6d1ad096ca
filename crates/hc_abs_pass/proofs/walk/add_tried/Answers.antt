use Rattle.hc_abs_pass.proofs.Common.{◌∷◌, [], None, Some, refl, sym, true, append-nil, subst}
use Rattle.hc_dfa.specs.Automata.{accepts}
use Rattle.hc_plan.specs.Ways.{IsTested, on}
use Rattle.hc_abs_pass.proofs.walk.add_tried.Goals as goal

pub returns-in-None : goal.returns-in-None
returns-in-None c =
    let named = c.args.named.now in (
      [],
      sym (append-nil c.args.found.now.items),
      record {
        set = c.in_ok-set.set;
        are = c.in_ok-set.ensures;
        way = None;
        tested = subst (λ way. IsTested named.tied.cell named.tied.ties named.text.items 0 named.side
            (on true (accepts c.in_ok-set.set)) way) c.in-None.is
            (subst (λ text. IsTested named.tied.cell named.tied.ties text 0 named.side
            (on true (accepts c.in_ok-set.set)) c.in_ok-way.way) c.deref.ensures.value c.in_ok-way.ensures);
        left = refl;
      },
    )

pub returns : goal.returns
returns c =
    let named = c.args.named.now in
    let walked = c.in_ok-arrived-in-Some.field-0 in (
      walked ∷ [],
      c.in_ok-push-in-Some.ensures.items,
      record {
        set = c.in_ok-set.set;
        are = c.in_ok-set.ensures;
        way = Some c.in-Some.way;
        tested = subst (λ way. IsTested named.tied.cell named.tied.ties named.text.items 0 named.side
            (on true (accepts c.in_ok-set.set)) way) c.in-Some.is
            (subst (λ text. IsTested named.tied.cell named.tied.ties text 0 named.side
            (on true (accepts c.in_ok-set.set)) c.in_ok-way.way) c.deref.ensures.value c.in_ok-way.ensures);
        left = (walked, refl, c.in_ok-arrived-in-Some.ensures);
      },
    )
