-- Where a function stops or goes on, and has cost nothing so far: lists of lemmas that functions name.
use Rattle.hc_serve.proofs.Costs.{costs_nothing}
use Rattle.hc_serve.proofs.Trees.{treed_off, treed_on}
use Rattle.hc_steps.proofs.Going.{ran_leaves, ran_no_further, ran_no_memory, ran_then}

pub ruleset stopping = (ran_no_memory, costs_nothing)

pub ruleset going_free = (ran_then, ran_no_further, ran_leaves, costs_nothing)

pub ruleset treed_free = (treed_off, treed_on, costs_nothing)
