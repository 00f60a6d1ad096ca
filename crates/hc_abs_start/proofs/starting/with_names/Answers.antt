use Rattle.std.proofs.Common.{◌∙◌}
use Rattle.std.specs.List.{list_all}
use Rattle.hc_forms.specs.Forms.{is_value_byte}
use Rattle.hc_plan.specs.Hands.{cell_of}
use Rattle.hc_plan.specs.Texts.{of_bytes}
use Rattle.hc_abs_pass.specs.Walks.{is_empty}
use Rattle.hc_abs_start.specs.Starting.{put_each}
use Rattle.hc_abs_start.proofs.starting.with_names.Goals as goal

pub returns : goal.returns
returns c =
    let unset = c.as_slice.ensures ∙ c.in_ok-unset.ensures in
    let sent = c.as_slice-2.ensures ∙ c.in_ok-sent.ensures in
    let begun =
    c.in_ok-begun.ensures is_empty c.in_ok-nothing.ensures
    ∙ (λ i. put_each (unset i) (of_bytes is_empty) (cell_of (c.in_ok-bare.ensures i))) in
    c.in_ok-made.ensures (list_all is_value_byte) c.in_ok-texts_of.ensures
    ∙ (λ i. put_each (sent i) (of_bytes (list_all is_value_byte)) (begun i))
