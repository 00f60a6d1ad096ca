-- An address in numbers, and which numbers may stand where.
use Rattle.std.specs.Prelude.{ℕ, ◌-◌, ◌/◌, ◌%◌, ◌^◌, Bool, ◌&&◌, nat_lt}
use Rattle.hc_base.specs.Bytes.{colon, dot}
use Rattle.hc_addr.specs.Networks.{same_under}
use Rattle.hc_net_sets.specs.declared.sought.Family.{Family}
use Rattle.hc_net_sets.specs.declared.sought.Family.TheVariants.{Four, Six}
use Rattle.hc_net_sets.specs.declared.sought.Sought.{Sought}
use Rattle.hc_net_sets.specs.declared.sought.TheConstants.{BYTES, BYTE_VALUES, GROUPS, GROUP_VALUES}

abbrev pub count_of : Family → ℕ
count_of Four = BYTES
count_of Six = GROUPS

abbrev pub base_of : Family → ℕ
base_of Four = BYTE_VALUES
base_of Six = GROUP_VALUES

abbrev pub separator_of : Family → ℕ
separator_of Four = dot
separator_of Six = colon

-- The number at a place of an address; the last number has place 0.
abbrev pub number_at : Family → ℕ → ℕ → ℕ
number_at family place whole = whole / base_of family ^ place % base_of family

-- The number may stand at the place.
abbrev pub fits_at : Sought → ℕ → ℕ → Bool
fits_at sought place number =
    same_under (number_at sought.family place sought.mask) number (number_at sought.family place sought.own)

-- The last groups of an address, so many of them.
abbrev pub low_part : ℕ → ℕ → ℕ
low_part count whole = whole % GROUP_VALUES ^ count

-- `::` may stand where so many numbers are left: at least one is in its place, and zeros may stand there.
abbrev pub zeros_fit : Sought → ℕ → Bool
zeros_fit sought left =
    nat_lt sought.behind left
    && same_under (low_part (left - sought.behind) (sought.mask / GROUP_VALUES ^ sought.behind)) 0
    (low_part (left - sought.behind) (sought.own / GROUP_VALUES ^ sought.behind))
