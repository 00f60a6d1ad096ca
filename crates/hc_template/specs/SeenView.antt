-- What variables have their values by, as a record of values.
use Rattle.hc_template.specs.Variables.{Seen}
use Rattle.hc_template.specs.declared.values.Values.{Values}

abbrev pub seen_of : Values → Seen
seen_of values =
    record { caller = values.caller.now; path = values.path.now; query = values.query.now; name = values.name.now }
