-- Sets of texts, as they are written.
use Rattle.std.specs.Prelude.{ℕ, List}
use Rattle.std.specs.List.{fold}
use Rattle.hc_scope.specs.declared.form.SetForm.{SetForm, fold-SetForm}
use Rattle.hc_scope.specs.declared.form.SetForm.TheOpen.{SetForm-F}

-- Every text, no text, one text, the texts that a pattern is found in, and what two sets have: both, either,
-- or the first without the second.
pub data Form : Type 0 where
  every : Form
  none : Form
  only : List ℕ → Form
  found : List ℕ → Form
  both : Form → Form → Form
  either : Form → Form → Form
  without : Form → Form → Form

-- One set, with the sets in it already seen. All of no sets is every text, and any of no sets is no text.
abbrev pub form_step : SetForm-F Form → Form
form_step SetForm-F.Any = every
form_step (SetForm-F.Literal text) = only text
form_step (SetForm-F.Pattern text) = found text
form_step (SetForm-F.And forms) = fold both every forms
form_step (SetForm-F.Or forms) = fold either none forms
form_step (SetForm-F.Minus first second) = without first second

abbrev pub form_of : SetForm → Form
form_of = fold-SetForm Form form_step
