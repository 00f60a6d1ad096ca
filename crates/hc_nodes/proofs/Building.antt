-- The nodes so far and the levels of the lines to come.
use Rattle.hc_nodes.proofs.Common.{◌≡◌, ℕ, List, [], ◌∷◌, ◌++◌, drop, true, refl, sym, ap, ◌∙◌}
use Rattle.hc_nodes.proofs.Common.{drop-drop, None, Vec, Global, Bor, rules, Line, nodes_view, put_before, put_step}
use Rattle.hc_nodes.proofs.Common.{IsClosed, section_closed, followed, section_lines, whole, Nodes, none, directive}
use Rattle.hc_nodes.proofs.Common.{block, rule_broken, is_close, next_of, refusals, with_line}
use Rattle.hc_nodes.specs.declared.build.Section.{Section}
use Rattle.hc_nodes.specs.declared.node.Node.{Node, Directive, Block, fold_out-Node, the_lemmas}
use Rattle.hc_nodes.specs.declared.node.Node.TheOpen.{Node-F}
use Rattle.hc_nodes.proofs.Steps.{close_unbroken, close_with}

pub followed-none : (nodes : Nodes) → followed nodes none ≡ nodes
followed-none none = refl
followed-none (directive line name rest next) = ap (directive line name rest) (followed-none next)
followed-none (block line name args body next) = ap (block line name args body) (followed-none next)

followed-followed : (a b c : Nodes) → followed (followed a b) c ≡ followed a (followed b c)
followed-followed none b c = refl
followed-followed (directive line name rest next) b c = ap (directive line name rest) (followed-followed next b c)
followed-followed (block line name args body next) b c = ap (block line name args body) (followed-followed next b c)

-- ---- a node more

put_layer : (layer : Node-F (Nodes → Nodes)) (a b : Nodes) → put_step layer (followed a b)
    ≡ followed (put_step layer a) b
put_layer (Node-F.Directive line name rest) a b = refl
put_layer (Node-F.Block line name args body) a b = refl

put_followed : (node : Node) (a b : Nodes) → put_before node (followed a b) ≡ followed (put_before node a) b
put_followed node a b = rw (fold_out-Node (Nodes → Nodes) put_step node) (put_layer _ a b)

pub nodes_view-last : (nodes : List Node) (node : Node) → nodes_view (nodes ++ node ∷ [])
    ≡ followed (nodes_view nodes) (put_before node none)
nodes_view-last [] node = refl
nodes_view-last (first ∷ nodes) node = ap (put_before first) (nodes_view-last nodes node)
    ∙ put_followed first (nodes_view nodes) (put_before node none)

pub put_Directive : (line : Bor Line) (name rest : Bor (List ℕ)) → put_before (Directive line name rest) none
    ≡ directive line.now name.now rest.now none
put_Directive line name rest = search (rules, the_lemmas)

pub put_Block : (line : Bor Line) (name args : Bor (List ℕ)) (body : Vec Node Global)
    → put_before (Block line name args body) none ≡ block line.now name.now args.now (nodes_view body.items) none
put_Block line name args body = search (rules, the_lemmas)

-- ---- a line more

pub whole_more : (sections : List Section) (nodes more : Nodes) (levels : List Nodes)
    → whole sections (followed nodes more) levels
    ≡ whole sections nodes (followed more (next_of levels) ∷ drop 1 levels)
whole_more [] nodes more levels = followed-followed nodes more (next_of levels)
whole_more (section ∷ sections) nodes more levels =
    ap (λ body. whole sections (section_closed section body) (drop 1 levels))
    (followed-followed nodes more (next_of levels))

pub whole_close : (sections later : List Section) (body nodes : Nodes) (line : Line) (levels : List Nodes)
    → is_close line ≡ true → rule_broken (section_lines sections) line ≡ None
    → IsClosed sections body later nodes → whole later nodes levels ≡ whole sections body (with_line line levels)
whole_close [] later body nodes line levels is unbroken closing = let never = close_unbroken line [] is unbroken in cc
whole_close (section ∷ sections) later body nodes line levels is unbroken closing =
    rw (close_with line levels is, followed-none body, closing.0, closing.1) refl

pub whole_opening : (stack sections : List Section) (section : Section) (levels : List Nodes)
    → stack ≡ section ∷ sections
    → whole stack none levels ≡ whole sections (nodes_view section.before.items)
    (block section.line.now section.name.now section.args.now (next_of levels) (next_of (drop 1 levels))
    ∷ drop 2 levels)
whole_opening stack sections section levels is =
    rw (is, sym (drop-drop 1 1 levels)) (whole_more sections (nodes_view section.before.items) _ (drop 1 levels))

-- ---- the last line

pub whole_end : (sections : List Section) (nodes : Nodes) → refusals (section_lines sections) [] ≡ []
    → whole sections nodes (none ∷ []) ≡ nodes
whole_end [] nodes free = followed-none nodes
whole_end (section ∷ sections) nodes free = cc
