-- The configuration of a main file, as long as what it rests on stays. Our own choice.
use Rattle.std.specs.Prelude.{◌≡◌, ◌≤◌, [], Bool, true, Result, Ok}
use Rattle.hc_base.specs.declared.place.Refusal.{Refusal}
use Rattle.hc_cache.specs.Entries.{is_current}
use Rattle.hc_claim_lines.specs.ClaimLines.{claim_lines}
use Rattle.hc_config.specs.Configuration.{built}
use Rattle.hc_include.specs.Flat.{flat_of}
use Rattle.hc_model.specs.World.{World}
use Rattle.hc_model.specs.declared.config.Config.{Config}
use Rattle.hc_steps.specs.Step.{Path}
use Rattle.hc_world.specs.Edits.{Edited, IsAccepted}
use Rattle.hc_kept.specs.Files.{AreFilesOf}
use Rattle.hc_kept.specs.declared.site.Site.{Site}

-- The configuration that the files of a world give, or its first refusal.
unfoldable pub configuration : World → Path → Result Config Refusal
configuration world main = built (flat_of world main)

-- Just read.
pub record IsRead (world : Edited) (path : Path) (site : Site) : Type 0 where
  pub main : site.main ≡ path
  pub built : site.built ≡ configuration world.files path
  pub lines : site.lines ≡ claim_lines (flat_of world.files path).entries
  pub reads : site.reads ≡ (flat_of world.files path).reads
  pub at : site.at ≡ world.edits
  pub files : site.files ≡ []

abbrev pub is_current_site : Edited → Site → Bool
is_current_site world site = is_current world site.reads site.at

-- While what it rests on stays, it is what reading the main file gives; and so are the `.htaccess` files.
pub record IsSiteOf (world : Edited) (site : Site) : Type 0 where
  pub age : site.at ≤ world.edits
  pub built : is_current_site world site ≡ true → site.built ≡ configuration world.files site.main
  pub lines : is_current_site world site ≡ true → site.lines ≡ claim_lines (flat_of world.files site.main).entries
  pub reads : is_current_site world site ≡ true → site.reads ≡ (flat_of world.files site.main).reads
  pub files : (config : Config) → site.built ≡ Ok config → AreFilesOf world config site.files

-- ---- laws

-- What was just read stands for its world.
abbrev pub WhatIsReadStands : Type 0
WhatIsReadStands = (world : Edited) (main : Path) (site : Site) → IsRead world main site → IsSiteOf world site

-- An edit leaves it standing.
abbrev pub SitesStand : Type 0
SitesStand = (old new : Edited) (site : Site) → IsAccepted old new → IsSiteOf old site → IsSiteOf new site
