use Rattle.std.proofs.Common.{length}
use Rattle.hc_serve.proofs.files.+each_looked.Given as goal

abbrev pub decreases-each_looked : goal.decreases-each_looked
decreases-each_looked g l = length l.wanted.now
