-- What the code keeps of the maps that a server may inherit.
use Rattle.std.specs.Prelude.{List}
use Rattle.hc_model.specs.declared.mapping.Map.{Map}
use Rattle.hc_serve.specs.declared.inherited.Maps.{Maps}
use Rattle.hc_serve.specs.declared.inherited.Maps.TheVariants.{Joined, Own}

abbrev pub list_of : Maps → List Map
list_of (Own own) = own.now
list_of (Joined joined) = joined
