-- What the parts of a text in an expression stand for.
-- Apache manual, "Expressions in Apache HTTP Server".
use Rattle.std.specs.Prelude.{[]}
use Rattle.hc_model.specs.declared.request.View.{View}
use Rattle.hc_template.specs.Filled.{Filling}
use Rattle.hc_template.specs.Variables.{variable_value}

-- No group is set in an expression.
abbrev pub filling_of : View → Filling
filling_of view = record { group = λ number. []; condition = λ number. []; variable = variable_value view }
