use Rattle.std.proofs.Common.{◌≡◌, take}
use Rattle.hc_model.proofs.section.+copy.Given as goal

-- the sections so far are copied
abbrev pub invariant-copy_sections-loop-section : goal.invariant-copy_sections-loop-section
invariant-copy_sections-loop-section l = l.copy ≡ take l.section-index l.sections
