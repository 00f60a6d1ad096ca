use Rattle.std.proofs.Common.{◌≡◌, ◌∙◌, ap}
use Rattle.hc_sent.proofs.Meeting.{asking_text, going_text, has_one}
use Rattle.hc_sent.specs.Ways.{GoesAsking, GoesTo}
use Rattle.hc_sent.specs.declared.leading.Led.TheVariants.{On}
use Rattle.hc_sent.proofs.sites.Site.onward.Goals as goal

pub returns-then-not-branch : goal.returns-then-not-branch
returns-then-not-branch c parts before origin site said go =
    let paths = c.in_ok-paths.ensures parts before origin site in
    let none = rw c.if-not-branch.true at c.in_ok-has_text.ensures in
    none ((has_one (GoesTo parts before origin) c.in_ok-paths.paths paths (going_text parts before origin)).1 go.0)

pub returns-then-not-branch-2 : goal.returns-then-not-branch-2
returns-then-not-branch-2 c parts before origin site said go =
    let queries = c.in_ok-queries.ensures parts before origin site said in
    let none = rw c.if-not-branch-2.true at c.in_ok-has_text-2.ensures in
    none ((has_one (GoesAsking parts before origin) c.in_ok-queries.queries queries
    (asking_text parts before origin)).1 go.1)

pub returns : goal.returns
returns c parts before origin site said =
    let paths = c.in_ok-paths.ensures parts before origin site in
    let queries = c.in_ok-queries.ensures parts before origin site said in
    let copied = c.in_ok-origin.ensures.cases in
    let same : c.in_ok-origin.origin ≡ c.args.self.now.origin.now =
    λ i. record { scheme = copied.0 i; host = copied.1.0 i; port = copied.1.1 i } in
    let path = rw c.if-not-branch.false at c.in_ok-has_text.ensures in
    let query = rw c.if-not-branch-2.false at c.in_ok-has_text-2.ensures in (
      (
        (has_one (GoesTo parts before origin) c.in_ok-paths.paths paths (going_text parts before origin)).0 path,
        (has_one (GoesAsking parts before origin) c.in_ok-queries.queries queries (asking_text parts before origin)).0
            query,
      ),
      (
        c.in_ok-paths.paths,
        c.in_ok-queries.queries,
        ap (λ own. On own c.in_ok-paths.paths c.in_ok-queries.queries) (same ∙ site.own),
        paths,
        queries,
      ),
    )
