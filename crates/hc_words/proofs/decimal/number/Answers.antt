use Rattle.std.proofs.Common.{rules, ◌≡◌, true, arith}
use Rattle.std.specs.Char.{is_ascii_digit}
use Rattle.std.specs.List.{list_all}
use Rattle.std.proofs.lemmas.Bool.Decides.{nat_tests}
use Rattle.std.proofs.lemmas.Grind.{common_steps}
use Rattle.std.proofs.lemmas.Str.Parse.{IsNumeralModel, numerals_by_value, parse_digits}
use Rattle.std.specs.Str.Parse.{digits_value}
use Rattle.hc_words.proofs.decimal.number.Goals as goal

model : IsNumeralModel (λ text. list_all is_ascii_digit text ≡ true) (digits_value 10)
model = numerals_by_value _ (search rules)

pub returns : goal.returns
returns c =
    let parsed = parse_digits model 64 c.args.text.now c.parse.result c.parse.ensures.value.0 c.requires in
    grind (arith, common_steps, nat_tests, parsed, c.ok.ensures.value)
