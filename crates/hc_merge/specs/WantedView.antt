-- What the code keeps of a directory whose `.htaccess` is read.
use Rattle.hc_model.specs.Overrides.{Loaded}
use Rattle.hc_merge.specs.declared.overriding.Wanted.{Wanted}

abbrev pub loaded_of : Wanted → Loaded
loaded_of wanted = record { dir = wanted.dir.now; allowed = wanted.allowed }
