-- Where a directive may stand.
use Rattle.std.specs.Prelude.{Bool, true, false, not, ◌||◌}
use Rattle.hc_table.specs.declared.context.Context.{Context}
use Rattle.hc_table.specs.declared.context.Context.TheVariants as place
use Rattle.hc_table.specs.declared.context.Contexts.{Contexts}
use Rattle.hc_table.specs.declared.context.Contexts.TheVariants as contexts

abbrev pub is_server : Context → Bool
is_server place.MainServer = true
is_server place.VirtualHost = true
is_server context = false

-- For one directory: in its section, or in a file inside it.
abbrev pub is_directory : Context → Bool
is_directory place.Directory = true
is_directory place.Htaccess = true
is_directory context = false

abbrev pub contain : Contexts → Context → Bool
contain contexts.MainServer place.MainServer = true
contain contexts.VirtualHost place.VirtualHost = true
contain contexts.Servers context = is_server context
contain contexts.Directory place.Directory = true
contain contexts.Directories context = is_directory context
contain contexts.ServersAndDirectories context = is_server context || is_directory context
contain contexts.AroundFiles place.DirectoryMatch = true
contain contexts.AroundFiles context = is_server context || is_directory context
contain contexts.AllButServers context = not (is_server context)
contain contexts.AllButIf place.IfSection = false
contain contexts.AllButIf context = true
contain contexts.AllButHtaccess place.Htaccess = false
contain contexts.AllButHtaccess context = true
contain contexts.Everywhere context = true
contain few context = false
