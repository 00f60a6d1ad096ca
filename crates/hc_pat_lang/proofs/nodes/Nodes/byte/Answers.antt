use Rattle.std.proofs.Common.{◌||◌, Bool, nat_eq, sym, ap, ◌∙◌}
use Rattle.hc_pat_lang.proofs.Fragmenting.{fragment_step}
use Rattle.hc_pat_lang.proofs.nodes.Nodes.byte.Goals as goal

pub returns : goal.returns
returns c =
    fragment_step c.args.part (λ x. nat_eq x c.args.byte) c.with.result c.args.exits _ _ _ c.requires
    c.in_ok-entries.ensures
    (λ byte. sym (c.with.ensures byte ∙ ap (λ (v : Bool). v || nat_eq byte c.args.byte) (c.empty.ensures byte)))
