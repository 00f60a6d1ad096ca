-- What each move keeps holds of all that is read on the ways of a graph.
use Rattle.hc_pat_lang.proofs.Common.{◌≡◌, ℕ, ◌<◌, Bool, true, false, if◌then◌else◌, List}
use Rattle.hc_pat_lang.proofs.Common.{[], ◌∷◌, refl, subst, Option, Some, None, has_byte, ByteSet}
use Rattle.hc_dfa.specs.Graphs.{GraphOf, IsChoice, Leads, Way}
use Rattle.hc_dfa.specs.Graphs.Way.{ends, passes, reads}
use Rattle.hc_dfa.specs.declared.graphs.Choice.{Choice}
use Rattle.hc_dfa.specs.declared.graphs.Choice.TheVariants.{Byte, One, Other}
use Rattle.hc_dfa.specs.declared.graphs.Move.{Move}
use Rattle.hc_pat_lang.specs.Graphs.{by_class, by_fork}

-- A text behind what is read on a move.
abbrev pub read_before : Option ℕ → List ℕ → List ℕ
read_before None text = text
read_before (Some byte) text = byte ∷ text

-- What holds of a text and where the move leads holds of the text behind what is read, and from where it leads.
abbrev pub Keeps : {K : Type 0} → (K → List ℕ → Type 0) → K → Option (Move K) → Type 0
Keeps P key None = Unit {0}
Keeps P key (Some move) = (text : List ℕ) → P move.to text → P key (read_before move.byte text)

module _ {K : Type 0} (P : K → List ℕ → Type 0) (key : K) where
  pub keeps_where : (v : Bool) (move : Option (Move K)) → (v ≡ true → Keeps P key move)
      → Keeps P key (if v then move else None)
  keeps_where true move keeps = keeps refl
  keeps_where false move keeps = tt

  pub keeps_class : (lead : ℕ → Option (Move K)) (set : ByteSet) (choice : Choice) → IsChoice choice
      → ((byte : ℕ) → byte < 256 → has_byte set byte ≡ true → Keeps P key (lead byte))
      → Keeps P key (by_class lead set choice)
  keeps_class lead set (Byte byte) small keeps = keeps_where (has_byte set byte) (lead byte) (keeps byte small)
  keeps_class lead set One is keeps = tt
  keeps_class lead set Other is keeps = tt

  pub keeps_fork : (first second : K) (choice : Choice) → ((text : List ℕ) → P first text → P key text)
      → ((text : List ℕ) → P second text → P key text) → Keeps P key (by_fork first second choice)
  keeps_fork first second (Byte byte) keeps keeps_too = tt
  keeps_fork first second One keeps keeps_too = keeps
  keeps_fork first second Other keeps keeps_too = keeps_too

module _ {K : Type 0} (g : GraphOf K) where
  pub each_way : (P : K → List ℕ → Type 0) → ((key : K) → g.is_final key ≡ true → P key [])
      → ((key : K) (choice : Choice) → IsChoice choice → Keeps P key (g.moves key choice))
      → {key : K} {text : List ℕ} → Way g key text → P key text
  each_way P end keeps {key = key} (ends final) = end key final
  each_way P end keeps {key = key} {text = text} (passes leads way) =
      subst (Keeps P key) leads.move (keeps key leads.choice leads.is) text (each_way P end keeps way)
  each_way P end keeps {key = key} (reads {text = text} leads way) =
      subst (Keeps P key) leads.move (keeps key leads.choice leads.is) text (each_way P end keeps way)

  pub led : {key to : K} {text : List ℕ} (seen : Option ℕ) → Leads g key seen to → Way g to text
      → Way g key (read_before seen text)
  led None leads way = passes leads way
  led (Some byte) leads way = reads leads way
