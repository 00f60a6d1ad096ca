use Rattle.hc_include.proofs.Common.{Some, None, arith, ap, ◌∙◌, bytes_of, flat_at, flat_of}
use Rattle.hc_include.proofs.Whole.{flat_on, flat_stopped}
use Rattle.hc_include.proofs.main_file.flatten.Goals as goal

pub returns-in_ok-flat_at-in-Ok-clause-flat : goal.returns-in_ok-flat_at-in-Ok-clause-flat
unfolding flat_of
returns-in_ok-flat_at-in-Ok-clause-flat g c =
    c.in_ok-flat_at-in-Ok.ensures ∙ ap (λ main. flat_at main c.read_main.new.log.reads None c.in-Ok.reading)
    c.in_ok-main.ensures
    ∙ (flat_on c.args.main.now _ _ c.in-Ok.reading
    (rw (c.in_ok-main.ensures, c.new-log.ensures) at c.in-Ok.ensures.read)).0

pub returns-in_ok-flat_at-in-Ok-clause-bytes : goal.returns-in_ok-flat_at-in-Ok-clause-bytes
unfolding bytes_of
returns-in_ok-flat_at-in-Ok-clause-bytes g c =
    let read =
    (flat_on c.args.main.now _ _ c.in-Ok.reading
    (rw (c.in_ok-main.ensures, c.new-log.ensures) at c.in-Ok.ensures.read)).1 in
    omega (arith, read, c.in-Ok.ensures.bytes.same)

pub returns-in_ok-flat_at-in-Err-Refused-clause-flat : goal.returns-in_ok-flat_at-in-Err-Refused-clause-flat
unfolding flat_of
returns-in_ok-flat_at-in-Err-Refused-clause-flat g c =
    c.in_ok-flat_at-in-Err-Refused.ensures
    ∙ ap (λ main. flat_at main c.read_main.new.log.reads (Some c.in-Err-Refused.stopped.refusal)
    c.in-Err-Refused.stopped.reading) c.in_ok-main.ensures
    ∙ (flat_stopped c.args.main.now _ _ c.in-Err-Refused.stopped
    (rw (c.in_ok-main.ensures, c.new-log.ensures, c.in-Err-Refused.field-0-is) at c.in-Err-Refused.ensures.read)).0

pub returns-in_ok-flat_at-in-Err-Refused-clause-bytes : goal.returns-in_ok-flat_at-in-Err-Refused-clause-bytes
unfolding bytes_of
returns-in_ok-flat_at-in-Err-Refused-clause-bytes g c =
    let read = (flat_stopped c.args.main.now _ _ c.in-Err-Refused.stopped
    (rw (c.in_ok-main.ensures, c.new-log.ensures, c.in-Err-Refused.field-0-is) at c.in-Err-Refused.ensures.read)).1 in
    let rose = rw c.in-Err-Refused.field-0-is at c.in-Err-Refused.ensures.bytes in
    omega (arith, read, rose.same)
