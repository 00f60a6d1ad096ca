-- One entry more, or the rule that it breaks.
use Rattle.std.proofs.Common.{◌≡◌, ℕ, ◌+◌, Bool, List, [], ◌∷◌, ◌++◌, take, drop, Option, Result}
use Rattle.std.proofs.Common.{Ok, Err, ap, sym, ◌∙◌}
use Rattle.hc_base.specs.Gives.{Gives}
use Rattle.hc_base.specs.Rules.{refusal_at}
use Rattle.hc_base.specs.declared.fault.AtByte.{AtByte}
use Rattle.hc_base.specs.declared.fault.Fault.{Fault}
use Rattle.hc_base.specs.declared.fault.Fault.TheVariants.{NoMemory, Refused}
use Rattle.hc_base.specs.declared.place.Refusal.{Refusal}
use Rattle.hc_model.specs.declared.entry.Entry.{Entry}
use Rattle.hc_config.specs.Among.{Among}
use Rattle.hc_config.specs.Configuration.{after_entry, gathered_from, gathered_next, goes_on}
use Rattle.hc_config.specs.Levels.{Standing, container_of, context_of, wild_of}
use Rattle.hc_config.specs.Rules.{judged}
use Rattle.hc_config.specs.declared.containers.Container.{Container}
use Rattle.hc_config.specs.declared.effect.Effect.{Effect}
use Rattle.hc_config.specs.declared.source.Source.{Source}
use Rattle.hc_table.specs.declared.context.Context.{Context}
use Rattle.hc_config.proofs.Places.{before_more, next_place}

module _ (all rest : List Entry) (place : ℕ) (entry : Entry) (source : Source) (standing : Standing)
    (context : Context)
    (container : Option Container) (wild : Bool)
    (here : drop place all ≡ entry ∷ rest) (is_context : context ≡ context_of source standing)
    (is_container : container ≡ container_of standing) (is_wild : wild ≡ wild_of standing) where
  abbrev pub among : Among
  among = record {
    before = take place all;
    entry = entry;
    behind = drop (place + 1) all;
    container = container;
    chained = standing.chained;
    wild = wild;
  }

  gathered_by : (judgment : Result Effect AtByte) → judged source context among ≡ judgment
      → gathered_from source standing (take place all) (drop place all)
      ≡ gathered_next standing entry (λ later. gathered_from source later (take (place + 1) all) rest) judgment
  gathered_by judgment judged_is =
      let given = rw (is_context, is_container, is_wild, next_place all place entry rest here) at judged_is in
      ap (gathered_from source standing (take place all)) here
      ∙ ap (gathered_next standing entry (λ later. gathered_from source later (take place all ++ entry ∷ []) rest))
      given
      ∙ ap (λ before. gathered_next standing entry (λ later. gathered_from source later before rest) judgment)
      (sym (before_more all place entry rest here))

  pub gathered_broken : (broken : AtByte) → judged source context among ≡ Err broken
      → gathered_from source standing (take place all) (drop place all) ≡ Err (refusal_at entry.spot.place broken)
  gathered_broken broken judged_is = gathered_by (Err broken) judged_is

  gathered_on : (effect : Effect) → judged source context among ≡ Ok effect → (next : Result Standing Refusal)
      → after_entry standing effect ≡ next
      → gathered_from source standing (take place all) (drop place all)
      ≡ goes_on (λ later. gathered_from source later (take (place + 1) all) rest) next
  gathered_on effect judged_is next is = gathered_by (Ok effect) judged_is
      ∙ ap (goes_on (λ later. gathered_from source later (take (place + 1) all) rest)) is

  pub gathered_more : (effect : Effect) → judged source context among ≡ Ok effect → (later : Standing)
      → after_entry standing effect ≡ Ok later
      → gathered_from source standing (take place all) (drop place all) ≡ gathered_from source later
      (take (place + 1) all) rest
  gathered_more effect judged_is later is = gathered_on effect judged_is (Ok later) is

  pub gathered_faulted : (effect : Effect) → judged source context among ≡ Ok effect
      → (fault : Fault Refusal) (whole : Result Standing Refusal)
      → whole ≡ gathered_from source standing (take place all) (drop place all)
      → Gives (Err fault) (after_entry standing effect) → Gives (Err fault) whole
  gathered_faulted effect judged_is (Refused refusal) whole is given =
      is ∙ gathered_on effect judged_is (Err refusal) given
  gathered_faulted effect judged_is NoMemory whole is given = tt
