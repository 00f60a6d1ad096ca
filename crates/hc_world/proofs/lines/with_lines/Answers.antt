use Rattle.hc_world.proofs.Common.{◌≡◌, ◌++◌, take, drop, rules, arith}
use Rattle.std.specs.Prelude.{string_bytes}
use Rattle.std.proofs.lemmas.Str.{IsCharBoundary-from_drop}
use Rattle.hc_world.proofs.Pieces.{edited-is}
use Rattle.hc_world.proofs.lines.with_lines.Goals as goal

pub range-requires-clause-end_boundary : goal.range-requires-clause-end_boundary
range-requires-clause-end_boundary c =
    let start = c.in-Some-after_lines.ensures.some in IsCharBoundary-from_drop _ _ start.within start.whole

pub range_from-requires : goal.range_from-requires
range_from-requires c = λ _. let end = c.in-Some.ensures.some in IsCharBoundary-from_drop _ _ end.within end.whole

pub returns : goal.returns
returns c =
    let old = c.args.old.now in
    let bytes = string_bytes c.push_str-2.new.self in
    let all : bytes ≡ take c.in-Some-after_lines.start old ++ c.args.new.now ++ drop c.in-Some.end old =
    search rules in
    edited-is old c.args.new.now bytes c.args.from c.args.to c.in-Some-after_lines.start c.in-Some.end
    c.in-Some-after_lines.ensures.some c.in-Some.ensures.some (omega arith) (omega arith) all
