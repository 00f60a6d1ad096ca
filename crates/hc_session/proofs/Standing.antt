-- What an edit leaves standing of a session's answers and of what was read.
use Rattle.std.proofs.Common.{◌≡◌, ℕ, Bool, true, false, List, [], ◌∷◌, ◌++◌, Option, Some, None, Ok}
use Rattle.std.proofs.Common.{Err, Result, IfSome, Contains, arith, refl, sym, ap, subst, ◌∙◌, nat_le, cond, drop}
use Rattle.std.proofs.Common.{filter, length, take}
use Rattle.std.proofs.lemmas.List.Elements.{Contains-append_left, Contains-append_right}
use Rattle.std.specs.Bool.{⊤}
use Rattle.std.specs.List.{AllByRecursion, find}
use Rattle.std.specs.Option.{unwrap_or, option_and_then}
use Rattle.hc_base.specs.declared.fault.Fault.{Fault}
use Rattle.hc_base.specs.declared.fault.Fault.TheVariants.{NoMemory, Refused}
use Rattle.hc_base.specs.declared.place.Refusal.{Refusal}
use Rattle.hc_cache.specs.Entries.{below, is_valid, stored, valid_value, value_of, without}
use Rattle.hc_config.specs.Levels.{Standing}
use Rattle.hc_config.specs.Configuration.{built, config_of, finished, is_rootless, rootless, unless_stopped}
use Rattle.hc_flat.specs.declared.flat.Flat.{Flat}
use Rattle.hc_include.specs.Flat.{flat_of}
use Rattle.hc_kept.proofs.Standing.{current_stays, flat_stays, site_stays}
use Rattle.hc_kept.specs.Files.{AreFilesOf, KeptFile}
use Rattle.hc_kept.specs.Site.{IsSiteOf, configuration}
use Rattle.hc_kept.specs.declared.site.Site.{Site}
use Rattle.hc_model.specs.World.{World}
use Rattle.hc_model.specs.declared.config.Config.{Config}
use Rattle.hc_model.specs.declared.read.Read.{Read}
use Rattle.hc_model.specs.declared.request.Request.{Request}
use Rattle.hc_serve.specs.Request.{outcome_of, reads_of, way, whole_run}
use Rattle.hc_serve.specs.declared.answer.Answer.{Answer}
use Rattle.hc_serve.specs.declared.answer.TheConstants.{LONGEST_TRAIL}
use Rattle.hc_steps.proofs.Kept.{each_is_kept}
use Rattle.hc_steps.proofs.Running.{agreement}
use Rattle.hc_steps.specs.Laws.{AgreeOn}
use Rattle.hc_steps.specs.Order.{each_once}
use Rattle.hc_steps.specs.Shown.{shown_by}
use Rattle.hc_steps.specs.Step.{Path}
use Rattle.hc_world.specs.Edits.{Edited, Edits, IsAccepted}
use Rattle.hc_session.proofs.Requests.{exact}
use Rattle.hc_session.specs.Session.{Kept, answer_of, kept_answer, same_request}
use Rattle.hc_session.specs.Sound.{IsAnswerOf, IsPresent, IsSite, IsSound}

-- ---- a list whose items all have something

option_some : {X : Type 0} (x y : X) → Some x ≡ Some y → x ≡ y
option_some x y e = ap (λ o. unwrap_or o x) e

module _ {X : Type 0} (P : X → Type 0) where
  pub all_kept : (test : X → Bool) (xs : List X) → AllByRecursion P xs → AllByRecursion P (filter test xs)
  all_kept test [] all = tt
  all_kept test (x ∷ xs) all =
      elim (test x) as (λ b. AllByRecursion P (cond b (x ∷ filter test xs) (filter test xs))) [
        | true ↦ (all.0, all_kept test xs all.1)
        | false ↦ all_kept test xs all.1
      ]

  pub all_behind : (xs : List X) → AllByRecursion P xs → AllByRecursion P (drop 1 xs)
  all_behind [] all = tt
  all_behind (x ∷ xs) all = all.1

  pub all_with : (xs : List X) (y : X) → AllByRecursion P xs → P y → AllByRecursion P (xs ++ y ∷ [])
  all_with [] y all last = (last, tt)
  all_with (x ∷ xs) y all last = (all.0, all_with xs y all.1 last)

  found_by : (test : X → Bool) (x y : X) (xs : List X) (b : Bool) → test x ≡ b → cond b (Some x) (find test xs)
      ≡ Some y → P x
      → (find test xs ≡ Some y → P y × (test y ≡ true)) → P y × (test y ≡ true)
  found_by test x y xs true held is px rest =
      let same = option_some x y is in (subst P same px, ap test (sym same) ∙ held)
  found_by test x y xs false held is px rest = rest is

  pub all_found : (test : X → Bool) (xs : List X) (y : X) → AllByRecursion P xs → find test xs ≡ Some y
      → P y × (test y ≡ true)
  all_found test [] y all is = cc
  all_found test (x ∷ xs) y all is = found_by test x y xs (test x) refl is all.0 (all_found test xs y all.1)

pub all_weaker : {X : Type 0} (P Q : X → Type 0) → ((x : X) → P x → Q x) → (xs : List X)
    → AllByRecursion P xs → AllByRecursion Q xs
all_weaker P Q weaker [] all = tt
all_weaker P Q weaker (x ∷ xs) all = (weaker x all.0, all_weaker P Q weaker xs all.1)

-- ---- a configuration rests on the reads of its flat list

reads_in : List Read → Result Config Refusal → List Read
reads_in none (Ok config) = config.reads
reads_in none (Err refusal) = none

module _ (flat : Flat) where
  of_gathered : (gathered : Result Standing Refusal) → reads_in flat.reads (finished flat gathered) ≡ flat.reads
  unfolding reads_in config_of
  of_gathered (Err refusal) = refl
  of_gathered (Ok standing) = of_stop flat.stop where
    of_stop : (stop : Option Refusal) → reads_in flat.reads (unless_stopped flat standing.so_far stop) ≡ flat.reads
    of_stop (Some refusal) = refl
    of_stop None =
        elim (is_rootless standing.so_far)
        as (λ b. reads_in flat.reads (cond b (Err (rootless flat.file)) (Ok (config_of flat standing.so_far)))
        ≡ flat.reads) [ true ↦ refl | false ↦ refl ]

  rests_on : (config : Config) → built flat ≡ Ok config → config.reads ≡ flat.reads
  unfolding reads_in built
  rests_on config is = sym (ap (reads_in flat.reads) is) ∙ of_gathered _

-- ---- worlds that agree

pub answers_agree : (config : Config) (request : Request) (one other : World)
    → AgreeOn (shown_by one) (shown_by other) (reads_of one config request) → answer_of one config request
    ≡ answer_of other config request
answers_agree config request one other same =
    let alike = agreement (way config request) (shown_by one) (shown_by other)
    (λ read is. same read
    (each_is_kept _ read (Contains-append_right config.reads (whole_run one config request).reads read is))) in
    λ i. record {
      outcome = outcome_of (alike i).way;
      events = length (alike i).events;
      trail = take LONGEST_TRAIL (alike i).events;
      reads = each_once (config.reads ++ (alike i).reads);
    }

pub configurations_agree : (main : Path) (config : Config) (request : Request) (one other : World)
    → configuration one main ≡ Ok config
    → AgreeOn (shown_by one) (shown_by other) (reads_of one config request) → configuration other main ≡ Ok config
unfolding configuration
configurations_agree main config request one other is same =
    let alike = flat_stays main one other (λ read among.
    same read
    (each_is_kept _ read
    (Contains-append_left config.reads (whole_run one config request).reads read
    (subst (λ reads. Contains reads read) (sym (rests_on (flat_of one main) config is)) among)))) in
    ap built (sym alike) ∙ is

-- ---- what was read

config_in : Config → Result Config Refusal → Config
config_in otherwise (Ok config) = config
config_in otherwise (Err refusal) = otherwise

same_ok : (one other : Config) → ◌≡◌ {A = Result Config Refusal} (Ok one) (Ok other) → one ≡ other
unfolding config_in
same_ok one other is = ap (λ (built : Result Config Refusal). config_in one built) is

-- Other files that were read under its configuration.
pub site_with : (world : Edited) (site : Site) (config : Config) (files : List KeptFile) → IsSiteOf world site
    → site.built ≡ Ok config → AreFilesOf world config files → IsSiteOf world (record site { files = files })
site_with world site config files before is read = record {
  age = before.age;
  built = before.built;
  lines = before.lines;
  reads = before.reads;
  files = λ other is_other. subst (λ config. AreFilesOf world config files)
      (same_ok config other (sym is ∙ is_other)) read;
}

-- ---- an edit

module _ (old new : Edited) (main : Path) (accepted : IsAccepted old new) where
  present_still : (kept : Kept) → IsPresent old main kept → IsPresent new main kept
  present_still kept before = record {
    age = omega (arith, before.age, accepted.counted);
    reads = before.reads;
    answer = λ valid.
        let stays = current_stays accepted before.age kept.reads valid in
        let was = before.answer stays.0 in
        let rests : kept.reads ≡ reads_of old.files was.0 kept.key =
        before.reads ∙ ap (λ (a : Answer). a.reads) was.2 in
        let same = subst (AgreeOn (shown_by old.files) (shown_by new.files)) rests stays.1 in (
          was.0,
          configurations_agree main was.0 kept.key old.files new.files was.1 same,
          was.2 ∙ answers_agree was.0 kept.key old.files new.files same,
        );
  }

  site_still : (read : Option Site) → IfSome read (IsSite old main) → IfSome read (IsSite new main)
  site_still None before = tt
  site_still (Some site) before =
      record { main_file = before.main_file; stands = site_stays accepted site before.stands }

  sound_still : (kept : List Kept) (read : Option Site) (most : ℕ) → IsSound old main kept read most
      → IsSound new main kept read most
  sound_still kept read most before = record {
    limit = before.limit;
    answers = all_weaker (IsPresent old main) (IsPresent new main) present_still kept before.answers;
    site = site_still read before.site;
  }

pub sound_edited : (old new : Edited) (main : Path) (kept : List Kept) (read : Option Site) (most : ℕ)
    (result : Result ⊤ (Fault ℕ)) (edit : Result World ℕ)
    → Edits result old new edit → IsSound old main kept read most → IsSound new main kept read most
sound_edited old new main kept read most (Ok done) edit made before =
    sound_still old new main made.1 kept read most before
sound_edited old new main kept read most (Err (Refused code)) edit made before =
    subst (λ world. IsSound world main kept read most) (sym made.1) before
sound_edited old new main kept read most (Err NoMemory) edit made before =
    subst (λ world. IsSound world main kept read most) (sym made) before

-- ---- an ask

-- The answer that is kept for a request is that of the present files.
module _ (world : Edited) (main : Path) (request : Request) (answer : Answer) where
  of_valid : (kept : Kept) (valid : Bool) → is_valid world kept ≡ valid → cond valid (Some kept.value) None
      ≡ Some answer
      → IsPresent world main kept → request ≡ kept.key → IsAnswerOf world main request answer
  of_valid kept false held is there key = cc
  of_valid kept true held is there key =
      let found = there.answer held in (
        found.0,
        found.1,
        sym (option_some kept.value answer is) ∙ found.2
            ∙ ap (answer_of world.files found.0) (sym key),
      )

  of_found : (all : List Kept) (found : Option Kept) → AllByRecursion (IsPresent world main) all
      → find (λ (kept : Kept). same_request request kept.key) all ≡ found
      → option_and_then (valid_value world) found ≡ Some answer → IsAnswerOf world main request answer
  of_found all None there found is = cc
  of_found all (Some kept) there found is =
      let at = all_found (IsPresent world main) (λ (kept : Kept). same_request request kept.key) all kept there
      found in
      of_valid kept (is_valid world kept) refl is at.0 (exact request kept.key at.1)

  pub is_present : (all : List Kept) → AllByRecursion (IsPresent world main) all
      → value_of same_request world request all ≡ Some answer → IsAnswerOf world main request answer
  is_present all there is = of_found all _ there refl is

  kept_anew : IsAnswerOf world main request answer → IsPresent world main (kept_answer world request answer)
  kept_anew same = record { age = omega arith; reads = refl; answer = λ _. same }

  all_below : (limit : ℕ) (all : List Kept) → AllByRecursion (IsPresent world main) all
      → AllByRecursion (IsPresent world main) (below limit all)
  all_below limit all before =
      elim (nat_le limit (length all)) as (λ b. AllByRecursion (IsPresent world main) (cond b (drop 1 all) all)) [
        | true ↦ all_behind (IsPresent world main) all before
        | false ↦ before
      ]

  pub all_stored : (limit : ℕ) (all : List Kept) → IsAnswerOf world main request answer
      → AllByRecursion (IsPresent world main) all
      → AllByRecursion (IsPresent world main) (stored same_request limit (kept_answer world request answer) all)
  all_stored limit all same before =
      all_with (IsPresent world main) (below limit (without same_request request all))
      (kept_answer world request answer)
      (all_below limit _ (all_kept (IsPresent world main) _ all before)) (kept_anew same)
