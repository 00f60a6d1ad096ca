use Rattle.hc_claim.proofs.Common.{◌∙◌, Some, None, refl, sym, ap}
use Rattle.std.proofs.lemmas.Result.{IfOk-weaker}
use Rattle.std.specs.Option.{option_copied}
use Rattle.hc_abs_view.specs.Seen.{IsAnswer}
use Rattle.hc_dfa.specs.Automata.{accepts}
use Rattle.hc_claim.proofs.Judged.{names_met}
use Rattle.hc_claim.specs.Judging.{HasMember}
use Rattle.hc_claim.proofs.judging.may_name.Goals as goal

pub returns-in-None : goal.returns-in-None
returns-in-None c =
    let set = accepts c.args.set.now in
    IfOk-weaker c.has_member.result (IsAnswer (HasMember set)) _
    (λ may. names_met c.args.cell.now None set set may (sym c.set_of.ensures ∙ ap option_copied c.in-None.is)
    (λ text bytes. refl)) c.has_member.ensures

pub returns-in_ok-both-in-Some : goal.returns-in_ok-both-in-Some
returns-in_ok-both-in-Some c =
    let both = accepts c.in_ok-both-in-Some.both in
    IfOk-weaker c.has_member-in-Some.result (IsAnswer (HasMember both)) _
    (λ may. names_met c.args.cell.now (Some c.in-Some.names.now) (accepts c.args.set.now) both may
    (sym c.set_of.ensures ∙ ap option_copied c.in-Some.is) c.in_ok-both-in-Some.ensures) c.has_member-in-Some.ensures
