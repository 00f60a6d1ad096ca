use Rattle.std.proofs.Common.{◌∙◌, subst, sym}
use Rattle.std.proofs.lemmas.Result.{IfOk-weaker}
use Rattle.hc_cert.proofs.Bytes.{all_there, at_dir, none_there}
use Rattle.hc_cert.specs.Coded.{HasServerBytes}
use Rattle.hc_cert.proofs.seeing.leaves_bytes.Goals as goal

pub returns-then-is_dir : goal.returns-then-is_dir
returns-then-is_dir c asked names fits =
    at_dir asked names c.args.ground fits c.args.own.now.named.now (sym c.is_dir.ensures ∙ c.if-is_dir.true)

pub returns-then-none : goal.returns-then-none
returns-then-none c asked names fits =
    let own = c.args.own.now in
    none_there asked names c.args.ground fits own.named.now own.tied c.requires.ready
    (sym c.is_dir.ensures ∙ c.if-is_dir.false) (c.in_ok-none.ensures.0 c.if-none.true)

pub returns : goal.returns
returns c asked names fits =
    let own = c.args.own.now in
    IfOk-weaker c.walk_list.result (λ done. HasServerBytes c.args.ground c.in_ok-tied.tied) _
    (λ done has. all_there asked names c.args.ground fits own.named.now own.tied c.requires.ready
    (sym c.is_dir.ensures ∙ c.if-is_dir.false) c.requires.ground c.requires.last
    (subst (HasServerBytes c.args.ground) c.in_ok-tied.ensures has)) c.walk_list.ensures
