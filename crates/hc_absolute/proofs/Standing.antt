-- What entries give keeps document roots and aliases that begin with a slash.
use Rattle.std.proofs.Common.{◌∷◌, ◌++◌, ℕ, zero, suc, List, [], take, Option, Some, None}
use Rattle.std.specs.List.{AllByRecursion, slice_get}
use Rattle.std.specs.Option.{IfSome}
use Rattle.std.specs.Result.{IfOk}
use Rattle.hc_config.specs.Configuration.{with_effect}
use Rattle.hc_config.specs.Levels.{Around, Standing, closed_by, innermost_closed, innermost_released, last_of}
use Rattle.hc_config.specs.Levels.{nothing_standing, opened, released_by, section_body, unless_refused, with_closed}
use Rattle.hc_model.specs.declared.config.Server.{Server}
use Rattle.hc_absolute.specs.Absolute.{IsAbsolute}
use Rattle.hc_absolute.proofs.Targets.{Begins}

module _ {A : Type 0} (P : A → Type 0) where
  pub all_both : (xs ys : List A) → AllByRecursion P xs → AllByRecursion P ys → AllByRecursion P (xs ++ ys)
  all_both [] ys first second = second
  all_both (x ∷ xs) ys first second = (first.0, all_both xs ys first.1 second)

  all_taken : (count : ℕ) (xs : List A) → AllByRecursion P xs → AllByRecursion P (take count xs)
  all_taken zero xs all = tt
  all_taken (suc count) [] all = tt
  all_taken (suc count) (x ∷ xs) all = (all.0, all_taken count xs all.1)

  pub all_at : (xs : List A) (at : ℕ) → AllByRecursion P xs → IfSome (slice_get xs at) P
  all_at [] at all = tt
  all_at (x ∷ xs) zero all = all.0
  all_at (x ∷ xs) (suc at) all = all_at xs at all.1

-- What a function takes: some types of hc_config have no name outside it.
abbrev In : {A B : Type 0} → (A → B) → Type 0
In {A = A} f = A

abbrev pub Gathered : Type 0
Gathered = In section_body

abbrev pub Effect : Type 0
Effect = In (with_effect nothing_standing)

abbrev pub Opening : Type 0
Opening = In (opened nothing_standing)

-- ---- what servers and sections have

abbrev pub IsServer : Server → Type 0
IsServer server = IfSome server.root Begins × AllByRecursion IsAbsolute server.aliases

abbrev pub AreGathered : Gathered → Type 0
AreGathered gathered =
    IfSome gathered.root Begins × AllByRecursion IsAbsolute gathered.aliases × AllByRecursion IsServer gathered.hosts

-- Whatever stood in an opening, what is around it is so with that.
abbrev IsAround : Around → Type 0
IsAround around = (inner : Gathered) → AreGathered inner
    → AreGathered (with_closed around.opening.spot around.opening.opened inner around.gathered)

abbrev pub AreStanding : Standing → Type 0
AreStanding standing = AreGathered standing.so_far × AllByRecursion IsAround standing.around

-- What an entry gives keeps that.
abbrev pub Keeps : Effect → Type 0
Keeps effect = (standing : Standing) → AreStanding standing → IfOk (with_effect standing effect) AreStanding

-- ---- what is opened, and closed

pub opened_keeps : (opening : Opening)
    → ((inner outer : Gathered) → AreGathered inner → AreGathered outer
    → AreGathered (with_closed opening.spot opening.opened inner outer))
    → (standing : Standing) → AreStanding standing → AreStanding (opened standing opening)
opened_keeps opening closed standing are =
    ((tt, tt, tt), all_both IsAround standing.around _ are.1 ((λ inner is. closed inner standing.so_far is are.0), tt))

close_by : (standing : Standing) (last : Option Around) → IfSome last IsAround → AreStanding standing
    → AreStanding (closed_by standing last)
close_by standing None last are = are
close_by standing (Some around) last are = (last standing.so_far are.0, all_taken IsAround _ standing.around are.1)

pub close_keeps : (standing : Standing) → AreStanding standing → AreStanding (innermost_closed standing)
close_keeps standing are =
    close_by standing (last_of standing.around) (all_at IsAround standing.around _ are.1) are

release_unless : (standing : Standing) (held : _) (refused : Option ℕ) → AreStanding standing
    → IfOk (unless_refused standing held refused) AreStanding
release_unless standing held None are = are
release_unless standing held (Some code) are = tt

release_by : (standing : Standing) (last : Option _) → AreStanding standing
    → IfOk (released_by standing last) AreStanding
release_by standing None are = are
release_by standing (Some held) are = release_unless standing held _ are

pub release_keeps : (standing : Standing) → AreStanding standing → IfOk (innermost_released standing) AreStanding
release_keeps standing are = release_by standing (last_of standing.held) are
