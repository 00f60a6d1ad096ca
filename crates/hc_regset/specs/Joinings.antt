-- How the members of a set are joined.
use Rattle.std.specs.Prelude.{List}
use Rattle.std.specs.List.{fold}
use Rattle.hc_dfa.specs.declared.products.Keep.{Keep}
use Rattle.hc_dfa.specs.declared.products.Keep.TheVariants.{Both, Either, FirstOnly}
use Rattle.hc_regset.specs.declared.compile.Joining.{Joining}
use Rattle.hc_regset.specs.declared.compile.Joining.TheVariants.{All, Any}
use Rattle.hc_regset.specs.Forms.{Form, both, either, every, none, without}

-- What is kept of two sets.
abbrev pub put_of : Keep → Form → Form → Form
put_of Both = both
put_of Either = either
put_of FirstOnly = without

abbrev pub keep_of : Joining → Keep
keep_of All = Both
keep_of Any = Either

-- The set of no members.
abbrev pub start_of : Joining → Form
start_of All = every
start_of Any = none

abbrev pub joined : Joining → List Form → Form
joined joining forms = fold (put_of (keep_of joining)) (start_of joining) forms
