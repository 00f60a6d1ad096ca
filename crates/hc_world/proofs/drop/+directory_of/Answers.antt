use Rattle.hc_world.proofs.Common.{arith}
use Rattle.hc_world.proofs.Below.{IsBelow-next, named_path}
use Rattle.hc_world.proofs.drop.+directory_of.Goals as goal

pub directory_of-requires : goal.directory_of-requires
directory_of-requires t c =
    let next = c.in-Some.ensures.some in
    let from_on = next.from_on in
    let room = next.within in (
      omega arith,
      (
        c.requires.formed,
        IsBelow-next c.args.directory.now c.args.path.now c.args.from c.in-Some.slash
            c.requires.formed c.requires.below next,
      ),
    )

pub returns-in-None-clause-named : goal.returns-in-None-clause-named
returns-in-None-clause-named t c = named_path c.args.directory.now c.args.path.now c.args.from c.requires.below
    c.in-None.ensures.none
