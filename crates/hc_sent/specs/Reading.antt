-- What is sent leads where it is found to lead, and is read there as what is found of it.
use Rattle.std.specs.Prelude.{◌≡◌, ℕ, List, [], ◌∷◌, ◌++◌, length, nat_le, true}
use Rattle.std.specs.List.{list_all}
use Rattle.hc_follow.specs.Next.{target_in}
use Rattle.hc_follow.specs.declared.origin.Origin.{Origin}
use Rattle.hc_forms.specs.Forms.{is_host_byte, is_target}
use Rattle.hc_target.specs.Targets.{read}
use Rattle.hc_target.specs.declared.target.TargetRead.TheVariants.{Path}
use Rattle.hc_sent.specs.Parts.{Sent}
use Rattle.hc_sent.specs.Ways.{GoesAsking, GoesTo, IsFirst, IsRest, MayFail}
use Rattle.hc_sent.specs.declared.parts.Part.{Part}
use Rattle.hc_sent.specs.declared.parts.TheConstants.{LONGEST_TARGET}

-- A target, and its path and query are among those that are found.
pub record IsReadAs (parts : List Part) (before : List Origin) (origin : Origin) (rest : List ℕ) : Type 0 where
  pub target : is_target (target_in rest) ≡ true
  pub path : List ℕ
  pub query : List ℕ
  pub read : read (target_in rest) ≡ Path path query
  pub goes_to : GoesTo parts before origin path
  pub asks : GoesAsking parts before origin query

-- The names of servers have letters, digits, dots and dashes.
abbrev pub AreNamed : List Origin → Type 0
AreNamed hosts = list_all (λ own. list_all is_host_byte own.host) hosts ≡ true

-- A location that leads to this server, with these before it, leads there too before its bytes are escaped.
abbrev pub AreLedOn : Type 0
AreLedOn = (parts : List Part) (before : List Origin) (origin : Origin) (location rest : List ℕ)
    → AreNamed (before ++ origin ∷ []) → Sent parts location → IsFirst before origin location rest
    → (bare : List ℕ) × IsRest parts before origin bare

-- It is read there as such a target, where nothing may be outside and it isn't too long.
abbrev pub AreReadBack : Type 0
AreReadBack = (parts : List Part) (before : List Origin) (origin : Origin) (location rest : List ℕ)
    → AreNamed (before ++ origin ∷ []) → Sent parts location → IsFirst before origin location rest
    → (MayFail parts before origin → ⊥)
    → nat_le (length (target_in rest)) LONGEST_TARGET ≡ true → IsReadAs parts before origin rest
