use Rattle.hc_pat_lang.proofs.Common.{pattern_of, part_ways, Outside}
use Rattle.hc_pat_lang.proofs.Looking.{first_ready, looked, taken_finds}
use Rattle.hc_pat_lang.proofs.Unmarked.{finds_plain}
use Rattle.hc_pat_lang.proofs.finding.matched.Goals as goal

pub build-requires : goal.build-requires
build-requires c = first_ready _ _ _ c.in_ok-nodes.ensures c.anything.ensures

pub automaton-requires-clause-nodes : goal.automaton-requires-clause-nodes
automaton-requires-clause-nodes c = (looked _ _ _ _ _ c.in_ok-entries.ensures.ready c.in_ok-start.ensures).are

pub automaton-requires-clause-start : goal.automaton-requires-clause-start
automaton-requires-clause-start c = (looked _ _ _ _ _ c.in_ok-entries.ensures.ready c.in_ok-start.ensures).below

pub returns : goal.returns
returns c text bytes =
    let every = c.every_byte-every.result in
    let fragment = rw (c.anything.ensures, c.in_ok-nodes.ensures) at c.in_ok-entries.ensures in
    let look = looked _ _ every _ _ c.in_ok-entries.ensures.ready c.in_ok-start.ensures in
    let finds =
    taken_finds every c.every_byte-every.ensures (λ other. part_ways Outside other (pattern_of c.args.pat.now))
    _ _ _ _ fragment look text in
    let found = finds_plain (pattern_of c.args.pat.now) text bytes in
    let reads = c.in_ok-made.ensures text bytes in (
      (λ accepted. found.0 (finds.0 (reads.0 accepted))),
      (λ is. reads.1 (finds.1 (found.1 is))),
    )
