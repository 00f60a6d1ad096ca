use Rattle.hc_abs_pass.proofs.Common.{◌∙◌, ◌++◌, refl, ap, subst, append-nil}
use Rattle.hc_dfa.specs.Automata.{accepts}
use Rattle.hc_plan.specs.Ways.{IsHandSet}
use Rattle.hc_dfa.specs.Texts.{IsText}
use Rattle.hc_abs_pass.proofs.walk.arrived.Goals as goal

pub returns : goal.returns
returns c =
    let way = c.args.way in
    let front = c.as_text.ensures.value ∙ c.as_bytes.ensures in record {
      bytes = subst IsText c.as_bytes.ensures c.as_text.ensures.bytes;
      texts = c.in_ok-texts.texts;
      are_texts = subst (λ text. IsHandSet way.cell text 0 way.side c.in_ok-texts.texts) c.deref.ensures.value
          c.in_ok-texts.ensures;
      rests = c.in_ok-rests.rests;
      are_rests = λ rest bytes. c.in_ok-rests.ensures rest bytes ∙ ap (accepts c.in_ok-texts.texts)
          (ap (λ tail. c.as_text.result.now ++ tail) (append-nil rest) ∙ ap (λ front. front ++ rest) front);
      names = c.in_ok-names.names;
      are_names = c.in_ok-names.ensures;
      infos = c.in_ok-infos.infos;
      are_infos = c.in_ok-infos.ensures;
      stored = c.in_ok-stored.ensures;
      kind = refl;
      dirs = c.in_ok-copy.ensures;
    }
