use Rattle.hc_pat_lang.proofs.Common.{accepts, pattern_of, group_ways}
use Rattle.hc_pat_lang.proofs.Grouping.{group_text}
use Rattle.hc_pat_lang.proofs.Looking.{looked, taken_finds}
use Rattle.hc_pat_lang.proofs.held.group_texts.Goals as goal

pub marked-requires-clause-nodes : goal.marked-requires-clause-nodes
marked-requires-clause-nodes c = (looked _ _ _ _ _ c.in_ok-entries.ensures.ready c.in_ok-start.ensures).are

pub returns : goal.returns
returns c text bytes =
    let every = c.every_byte-every.result in
    let pattern = pattern_of c.args.pat.now in
    let fragment = rw c.in_ok-nodes.ensures at c.in_ok-entries.ensures in
    let look = looked _ _ every _ _ c.in_ok-entries.ensures.ready c.in_ok-start.ensures in
    let finds = taken_finds every c.every_byte-every.ensures (λ other. group_ways c.args.number other pattern) _ _ _ _
    fragment look in
    let group = group_text pattern c.args.number (accepts c.args.set.now) _ _ finds text in
    let reads = c.in_ok-made.ensures text bytes in
    ((λ is. group.0 (reads.0 is)), (λ is. reads.1 (group.1 is)))
