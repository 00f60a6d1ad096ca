use Rattle.std.proofs.Common.{◌≡◌, ◌+◌, ◌-◌, ◌<◌, ◌≤◌, ◌++◌, ◌∙◌, ◌&&◌, ℕ, Bool, arith, drop, le-leb, length, nat_le, refl}
use Rattle.std.proofs.Common.{rules, string_bytes, take, true}
use Rattle.std.proofs.lemmas.Str.{IsCharBoundary-from_drop}
use Rattle.hc_base.specs.Lines.{pieces}
use Rattle.hc_kept_lines.specs.Edit.{is_range}
use Rattle.hc_kept_lines.proofs.Editing.{spliced_by}
use Rattle.hc_tests_files.proofs.kept.text_behind.Goals as goal

in_range : (lines from to : ℕ) → 0 < from → from - 1 ≤ to → to ≤ lines → is_range lines from to ≡ true
in_range lines from to some order few =
    all (nat_le 1 from) (nat_le from (lines + 1)) (nat_le (from - 1) to) (nat_le to lines)
    (le-leb 1 from (omega arith)) (le-leb from (lines + 1) (omega arith)) (le-leb (from - 1) to order)
    (le-leb to lines few)
  where
    all : (a b c d : Bool) → a ≡ true → b ≡ true → c ≡ true → d ≡ true → (a && b && c && d) ≡ true
    all a b c d e f g h = rw (e, f, g, h) refl

pub range-requires-clause-end_boundary : goal.range-requires-clause-end_boundary
range-requires-clause-end_boundary c =
    let start = c.in-Some.ensures in IsCharBoundary-from_drop _ _ start.within start.whole

pub range_from-requires : goal.range_from-requires
range_from-requires c =
    λ _. let end = c.in-Some-after_lines.ensures in IsCharBoundary-from_drop _ _ end.within end.whole

pub returns : goal.returns
returns c =
    let old = c.args.old.now in
    let start = c.in-Some.ensures in
    let end = c.in-Some-after_lines.ensures in
    let bytes = string_bytes c.push_str-2.new.self in
    let all : bytes ≡ take c.in-Some.start old ++ c.args.new.now ++ drop c.in-Some-after_lines.end old =
    search rules in (
      in_range (length (pieces old)) c.args.from c.args.to (omega arith) (omega arith) end.count,
      all ∙ spliced_by old c.args.new.now c.args.from c.args.to c.in-Some.start c.in-Some-after_lines.end start end,
    )
