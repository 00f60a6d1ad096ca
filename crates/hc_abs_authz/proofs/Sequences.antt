-- What leaves and trees, one after the other, may come to.
use Rattle.std.proofs.Common.{◌≡◌, ◌∙◌, ◌↔◌, List, [], ◌∷◌, ◌++◌, map, Bool, true, false}
use Rattle.std.proofs.Common.{◌||◌}
use Rattle.std.proofs.Common.{refl, sym, ap, subst, append_assoc, true≢false}
use Rattle.hc_authz.specs.Values.{all_value, any_value, is_denied, is_granted, none_value}
use Rattle.hc_authz.specs.declared.tree.Tri.{Tri}
use Rattle.hc_model.specs.declared.authorization.Need.{Need}
use Rattle.hc_model.specs.declared.authorization.ReqTree.{ReqTree, fold-roll-ReqTree, ind-ReqTree, map-ReqTree}
use Rattle.hc_model.specs.declared.authorization.ReqTree.{roll-ReqTree}
use Rattle.hc_model.specs.declared.authorization.ReqTree.TheOpen.{ReqTree-F}
use Rattle.hc_model.specs.declared.request.Request.{Request}
use Rattle.hc_abs_pass.specs.Authorizing.{Asked, Leaf, asked_of, leaves_of, level_asked, line_answer, line_asked}
use Rattle.hc_abs_pass.specs.Authorizing.{need_leaves}
use Rattle.hc_abs_pass.specs.Authorizing.{of_members, over_members, some_first}
use Rattle.hc_abs_authz.specs.Clients.{AreAnswers}
use Rattle.hc_abs_authz.specs.Leaves.{AllSay, AreValues, AreVotes, LineMay, MembersMay, SomeMay, TreeMay, either_of}
use Rattle.hc_abs_authz.specs.Leaves.{gives}
use Rattle.hc_abs_authz.specs.Leaves.{no_votes, values_by, votes, with_member}
use Rattle.hc_abs_authz.specs.declared.answers.Answers.{Answers}
use Rattle.hc_abs_authz.specs.declared.values.Values.{Values}
use Rattle.hc_abs_authz.specs.declared.values.Votes.{Votes}
use Rattle.hc_abs_authz.proofs.ValueSets.{are_answers, each_answer, either_may, make_may, more_may}
use Rattle.hc_abs_authz.proofs.Common.{or_none, or_assoc}

-- What members are read as, by what the first of them is.
abbrev past_first : (Bool → Bool → Tri) → List Asked → Bool → Bool → Tri × List Bool → Tri × List Bool
past_first table members granted denied read =
    over_members table members (granted || is_granted read.0) (denied || is_denied read.0) read.1

module _ (MaySay : Leaf → Bool → Type 0) where
  -- ---- leaves

  some_more : (leaf : Leaf) (leaves : List Leaf) (before is : Bool)
      → SomeMay MaySay (leaf ∷ leaves) before is
      → (first : Bool) × MaySay leaf first × SomeMay MaySay leaves (before || first) is
  some_more leaf leaves before is may =
      let read : some_first (leaf ∷ leaves) may.0 ≡ some_first (leaf ∷ leaves) (may.1.0 ∷ may.1.1) =
      ap (some_first (leaf ∷ leaves)) may.1.2 in (
        may.1.0,
        may.1.3,
        (
          may.1.1,
          may.1.4,
          or_assoc before may.1.0 (some_first leaves may.1.1).0
              ∙ ap (λ (read : Bool × List Bool). before || read.0) (sym read) ∙ may.2,
        ),
      )

  some_led : (leaf : Leaf) (leaves : List Leaf) (before is first : Bool) → MaySay leaf first
      → SomeMay MaySay leaves (before || first) is → SomeMay MaySay (leaf ∷ leaves) before is
  some_led leaf leaves before is first says may = (
    first ∷ may.0,
    (first, may.0, refl, says, may.1),
    sym (or_assoc before first (some_first leaves may.0).0) ∙ may.2,
  )

  some_end : (before is : Bool) → SomeMay MaySay [] before is ↔ (before ≡ is)
  some_end before is = (λ may. sym (or_none before) ∙ may.2, λ same. ([], refl, or_none before ∙ same))

  -- What the leaves before those that are left may come to.
  pub record SoFar (all left : List Leaf) (answers : Answers) : Type 0 where
    pub each : (is : Bool) → LineMay MaySay all is
        ↔ ((before : Bool) × (gives answers before ≡ true) × SomeMay MaySay left before is)

  pub goes_on : (all left : List Leaf) (leaf : Leaf) (answers more : Answers) → SoFar all (leaf ∷ left) answers
      → AreAnswers (MaySay leaf) more → SoFar all left (either_of answers more)
  goes_on all left leaf answers more so_far are = record {
    each = λ is. (λ may. there is ((so_far.each is).0 may), back is);
  }
    where
      there : (is : Bool) → ((before : Bool) × (gives answers before ≡ true) × SomeMay MaySay (leaf ∷ left) before is)
          → (before : Bool) × (gives (either_of answers more) before ≡ true) × SomeMay MaySay left before is
      there is found =
          let split = some_more leaf left found.0 is found.2 in (
            found.0 || split.0,
            (either_may answers more (found.0 || split.0)).1
                (found.0, split.0, found.1, (each_answer are split.0).1 split.1, refl),
            split.2,
          )

      back : (is : Bool)
          → ((before : Bool) × (gives (either_of answers more) before ≡ true) × SomeMay MaySay left before is)
          → LineMay MaySay all is
      back is found =
          let parts = (either_may answers more found.0).0 found.1 in
          (so_far.each is).1 (
            parts.0,
            parts.2,
            some_led leaf left parts.0 is parts.1 ((each_answer are parts.1).0 parts.3)
                (subst (λ before. SomeMay MaySay left before is) (sym parts.4) found.2),
          )

  pub ends_so : (all : List Leaf) (answers : Answers) → SoFar all [] answers → AreAnswers (LineMay MaySay all) answers
  ends_so all answers so_far =
      are_answers answers (λ is. (
        λ held. (so_far.each is).1 (is, held, (some_end is is).1 refl),
        λ may. let found = (so_far.each is).0 may in
            ap (gives answers) (sym ((some_end found.0 is).0 found.2)) ∙ found.1,
      ))

  pub ends_at : (all left : List Leaf) (answers : Answers) → left ≡ [] → SoFar all left answers
      → AreAnswers (LineMay MaySay all) answers
  ends_at all left answers none so_far = ends_so all answers (subst (λ left. SoFar all left answers) none so_far)

  -- A line of one leaf.
  pub one_leaf : (leaf : Leaf) (answers : Answers) → AreAnswers (MaySay leaf) answers
      → AreAnswers (LineMay MaySay (leaf ∷ [])) answers
  one_leaf leaf answers are =
      are_answers answers (λ is. (
        λ held. some_led leaf [] false is is ((each_answer are is).0 held) ((some_end is is).1 refl),
        λ may. let split = some_more leaf [] false is may in
            ap (gives answers) (sym ((some_end split.0 is).0 split.2)) ∙ (each_answer are split.0).1 split.1,
      ))

  -- ---- the answers of one tree before those of others

  two_say : (one other : List Leaf) (said : List Bool) → AllSay MaySay (one ++ other) said
      → (first : List Bool) × (rest : List Bool) × (said ≡ first ++ rest) × AllSay MaySay one first
      × AllSay MaySay other rest
  two_say [] other said all = ([], said, refl, refl, all)
  two_say (leaf ∷ one) other said all =
      let split = two_say one other all.1 all.4 in (
        all.0 ∷ split.0,
        split.1,
        all.2 ∙ ap (λ more. all.0 ∷ more) split.2,
        (all.0, split.0, refl, all.3, split.3),
        split.4,
      )

  both_say : (one other : List Leaf) (first rest : List Bool) → AllSay MaySay one first → AllSay MaySay other rest
      → AllSay MaySay (one ++ other) (first ++ rest)
  both_say [] other first rest says more = subst (λ said. AllSay MaySay other (said ++ rest)) (sym says) more
  both_say (leaf ∷ one) other first rest says more =
      (says.0, says.1 ++ rest, ap (λ said. said ++ rest) says.2, says.3, both_say one other says.1 rest says.4 more)

  -- A tree reads its own answers, and leaves all others.
  abbrev pub ReadsOwn : Asked → Type 0
  ReadsOwn asked = (said rest : List Bool) → AllSay MaySay asked.leaves said
      → asked.value (said ++ rest) ≡ ((asked.value said).0, rest)

  first_read : (leaves : List Leaf) (said rest : List Bool) → AllSay MaySay leaves said
      → some_first leaves (said ++ rest) ≡ ((some_first leaves said).0, rest)
  first_read [] said rest all = ap (λ said. (false, said ++ rest)) all
  first_read (leaf ∷ leaves) said rest all =
      ap (λ said. some_first (leaf ∷ leaves) (said ++ rest)) all.2
      ∙ ap (λ (read : Bool × List Bool). (all.0 || read.0, read.1)) (first_read leaves all.1 rest all.4)
      ∙ ap (λ said. ((some_first (leaf ∷ leaves) said).0, rest)) (sym all.2)

  line_reads : (request : Request) (negated : Bool) (need : Need) → ReadsOwn (line_asked request negated need)
  line_reads request negated need said rest all =
      ap (line_answer negated) (first_read (need_leaves request need) said rest all)

  module _ (request : Request) where
    abbrev asked_all : List ReqTree → List Asked
    asked_all trees = map (asked_of request) trees

    abbrev pub Reads : ReqTree → Type 0
    Reads tree = ReadsOwn (asked_of request tree)

    abbrev Readers : Type 0
    Readers = List ((tree : ReqTree) × Reads tree)

    abbrev trees : Readers → List ReqTree
    trees readers = map (λ reader. reader.0) readers

    members_read : (table : Bool → Bool → Tri) (readers : Readers) (granted denied : Bool) (said rest : List Bool)
        → AllSay MaySay (leaves_of (asked_all (trees readers))) said
        → over_members table (asked_all (trees readers)) granted denied (said ++ rest)
        ≡ ((over_members table (asked_all (trees readers)) granted denied said).0, rest)
    members_read table [] granted denied said rest all = ap (λ said. (table granted denied, said ++ rest)) all
    members_read table (reader ∷ readers) granted denied said rest all =
        let asked = asked_of request reader.0 in
        let more = asked_all (trees readers) in
        let split = two_say asked.leaves (leaves_of more) said all in
        let own = (asked.value split.0).0 in
        ap (λ said. past_first table more granted denied (asked.value (said ++ rest))) split.2
        ∙ ap (λ said. past_first table more granted denied (asked.value said)) (append_assoc split.0 split.1 rest)
        ∙ ap (past_first table more granted denied) (reader.1 split.0 (split.1 ++ rest) split.3)
        ∙ members_read table readers (granted || is_granted own) (denied || is_denied own) split.1 rest split.4
        ∙ ap (λ (read : Tri × List Bool). ((past_first table more granted denied read).0, rest))
        (sym (reader.1 split.0 split.1 split.3))
        ∙ ap (λ said. ((past_first table more granted denied (asked.value said)).0, rest)) (sym split.2)

    abbrev ReadsLevel : ReqTree-F ReqTree → Type 0
    ReadsLevel level = Reads (roll-ReqTree level)

    led : (level : ReqTree-F ReqTree) (asked : Asked) → asked ≡ asked_of request (roll-ReqTree level) → ReadsOwn asked
        → ReadsLevel level
    led level asked is reads = subst ReadsOwn is reads

    container_reads : (level : ReqTree-F ReqTree) (table : Bool → Bool → Tri) (readers : Readers)
        → asked_of request (roll-ReqTree level) ≡ of_members table (asked_all (trees readers)) → ReadsLevel level
    container_reads level table readers is =
        led level (of_members table (asked_all (trees readers))) (sym is) (members_read table readers false false)

    abbrev read_tree : (reader : (tree : ReqTree) × Reads tree) → ReqTree
    read_tree reader = reader.0

    by_level : (readers : ReqTree-F ((tree : ReqTree) × Reads tree))
        → ReadsLevel (map-ReqTree ((tree : ReqTree) × Reads tree) ReqTree read_tree readers)
    by_level (ReqTree-F.Leaf place negated need) =
        let level = ReqTree-F.Leaf place negated need in
        led level (line_asked request negated need) (sym (fold-roll-ReqTree Asked (level_asked request) level))
        (line_reads request negated need)
    by_level (ReqTree-F.All readers) =
        container_reads (ReqTree-F.All (trees readers)) all_value readers
        (fold-roll-ReqTree Asked (level_asked request) (ReqTree-F.All (trees readers)))
    by_level (ReqTree-F.AnyOf readers) =
        container_reads (ReqTree-F.AnyOf (trees readers)) any_value readers
        (fold-roll-ReqTree Asked (level_asked request) (ReqTree-F.AnyOf (trees readers)))
    by_level (ReqTree-F.NoneOf readers) =
        container_reads (ReqTree-F.NoneOf (trees readers)) none_value readers
        (fold-roll-ReqTree Asked (level_asked request) (ReqTree-F.NoneOf (trees readers)))

    pub reads : (tree : ReqTree) → Reads tree
    reads = ind-ReqTree Reads (λ level readers is. subst ReadsLevel is (by_level readers))

  -- ---- members

  module _ (table : Bool → Bool → Tri) (asked : Asked) (reads_own : ReadsOwn asked) (members : List Asked) where
    abbrev past : Bool → Bool → Tri × List Bool → Tri
    past granted denied read = (past_first table members granted denied read).0

    members_more : (granted denied : Bool) (value : Tri)
        → MembersMay MaySay table (asked ∷ members) granted denied value
        → (own : Tri) × TreeMay MaySay asked own
        × MembersMay MaySay table members (granted || is_granted own) (denied || is_denied own) value
    members_more granted denied value may =
        let split = two_say asked.leaves (leaves_of members) may.0 may.1 in (
          (asked.value split.0).0,
          (split.0, split.3, refl),
          (
            split.1,
            split.4,
            ap (past granted denied) (sym (reads_own split.0 split.1 split.3))
                ∙ ap (λ said. past granted denied (asked.value said)) (sym split.2)
                ∙ may.2,
          ),
        )

    members_led : (granted denied : Bool) (value own : Tri) → TreeMay MaySay asked own
        → MembersMay MaySay table members (granted || is_granted own) (denied || is_denied own) value
        → MembersMay MaySay table (asked ∷ members) granted denied value
    members_led granted denied value own may more = (
      may.0 ++ more.0,
      both_say asked.leaves (leaves_of members) may.0 more.0 may.1 more.1,
      ap (past granted denied) (reads_own may.0 more.0 may.1)
          ∙ ap (λ own. past granted denied (own, more.0)) may.2
          ∙ more.2,
    )

  -- What the members before those that are left may come to together.
  pub record VotesSoFar (all left : List Asked) (found : Votes) : Type 0 where
    pub each : (table : Bool → Bool → Tri) (value : Tri) → MembersMay MaySay table all false false value
        ↔ ((granted : Bool) × (denied : Bool) × (votes found granted denied ≡ true)
        × MembersMay MaySay table left granted denied value)

  pub votes_begin : (all : List Asked) → VotesSoFar all all no_votes
  votes_begin all = record {
    each = λ table value. (
      λ may. (false, false, refl, may),
      λ found. by table value found.0 found.1 found.2 found.3,
    );
  }
    where
      by : (table : Bool → Bool → Tri) (value : Tri) (granted denied : Bool) → votes no_votes granted denied ≡ true
          → MembersMay MaySay table all granted denied value → MembersMay MaySay table all false false value
      by table value false false held may = may
      by table value true false held may = absurd (true≢false (sym held))
      by table value false true held may = absurd (true≢false (sym held))
      by table value true true held may = absurd (true≢false (sym held))

  pub votes_go_on : (all left : List Asked) (asked : Asked) (found : Votes) (values : Values) → ReadsOwn asked
      → VotesSoFar all (asked ∷ left) found → AreValues (TreeMay MaySay asked) values
      → VotesSoFar all left (with_member found values)
  votes_go_on all left asked found values reads_own so_far are = record {
    each = λ table value. (
      λ may. there table value ((so_far.each table value).0 may),
      back table value,
    );
  }
    where
      there : (table : Bool → Bool → Tri) (value : Tri)
          → ((granted : Bool) × (denied : Bool) × (votes found granted denied ≡ true)
          × MembersMay MaySay table (asked ∷ left) granted denied value)
          → (granted : Bool) × (denied : Bool) × (votes (with_member found values) granted denied ≡ true)
          × MembersMay MaySay table left granted denied value
      there table value made =
          let split = members_more table asked reads_own left made.0 made.1 value made.3 in (
            made.0 || is_granted split.0,
            made.1 || is_denied split.0,
            (more_may found values (made.0 || is_granted split.0) (made.1 || is_denied split.0)).1
                (made.0, made.1, split.0, made.2, (are.each split.0).1 split.1, refl, refl),
            split.2,
          )

      back : (table : Bool → Bool → Tri) (value : Tri)
          → ((granted : Bool) × (denied : Bool) × (votes (with_member found values) granted denied ≡ true)
          × MembersMay MaySay table left granted denied value)
          → MembersMay MaySay table all false false value
      back table value made =
          let parts = (more_may found values made.0 made.1).0 made.2 in
          (so_far.each table value).1 (
            parts.0,
            parts.1,
            parts.3,
            members_led table asked reads_own left parts.0 parts.1 value parts.2 ((are.each parts.2).0 parts.4)
                (subst (λ denied. MembersMay MaySay table left (parts.0 || is_granted parts.2) denied value)
                (sym parts.6)
                (subst (λ granted. MembersMay MaySay table left granted made.1 value) (sym parts.5) made.3)),
          )

  pub votes_end : (all : List Asked) (found : Votes) → VotesSoFar all [] found
      → AreVotes (λ table value. MembersMay MaySay table all false false value) found
  votes_end all found so_far = record {
    each = λ table value. (
      λ may. let made = (so_far.each table value).0 may in (made.0, made.1, made.2, made.3.2),
      λ made. (so_far.each table value).1 (made.0, made.1, made.2, ([], refl, made.3)),
    );
  }

  pub container_tree : (table : Bool → Bool → Tri) (all : List Asked) (found : Votes)
      → AreVotes (λ table value. MembersMay MaySay table all false false value) found
      → AreValues (TreeMay MaySay (of_members table all)) (values_by table found)
  container_tree table all found are = record {
    each = λ value. (
      λ held. (are.each table value).1 ((make_may table found value).0 held),
      λ may. (make_may table found value).1 ((are.each table value).0 may),
    );
  }
