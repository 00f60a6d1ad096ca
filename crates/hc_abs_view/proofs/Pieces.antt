-- The parts of a text are its items.
use Rattle.std.proofs.Common.{None, ◌≡◌, List, [], ◌∷◌, true, refl, sym, ap, subst}
use Rattle.hc_abs_rw.proofs.Knowing.{every_given}
use Rattle.hc_abs_rw.specs.Known.{client_given}
use Rattle.hc_dfa.specs.Automata.{Automaton}
use Rattle.hc_dfa.specs.Built.{Accepts}
use Rattle.hc_model.specs.declared.template.Piece.{Piece}
use Rattle.hc_plan.specs.Hands.{part_of, parts_of, set_in}
use Rattle.hc_plan.specs.States.{AbsState, AreParts, IsGiven, IsPart, free}
use Rattle.hc_plan.specs.declared.hand.Element.{Element}
use Rattle.hc_plan.specs.declared.hand.Element.TheVariants as element
use Rattle.hc_abs_pass.specs.Views.{view_items}
use Rattle.hc_abs_view.specs.Seen.{ArePiecesOf, IsItemOf}
use Rattle.hc_abs_view.specs.Viewing.{HoldsQuery, query_item, scene_of}
use Rattle.hc_abs_view.specs.declared.scene.Query.TheVariants as query
use Rattle.hc_abs_view.specs.declared.scene.Scene.{Scene}

-- ---- the query

pub any_query : (scene : Scene) (every : Automaton) → scene.query ≡ query.Any → Accepts every (λ text. true)
    → IsItemOf scene (query_item scene.query) (element.Free every)
any_query scene every is all state holds printed =
    subst (λ query. IsPart state (query_item query) (part_of (element.Free every))) (sym is)
    (subst (λ given. IsGiven given (free (set_in every)))
    (sym (subst (λ query. HoldsQuery query state.given) is holds)) (every_given None every refl all))

-- ---- a template

pub pieces_are : (scene : Scene) (state : AbsState) → HoldsQuery scene.query state.given
    → state.printed ≡ client_given scene.client → (pieces : List Piece) (elements : List Element)
    → ArePiecesOf scene pieces elements → AreParts state (view_items (scene_of scene) pieces) (parts_of elements)
pieces_are scene state holds printed [] elements are = ap parts_of are
pieces_are scene state holds printed (piece ∷ pieces) elements are = (
  part_of are.0,
  parts_of are.1,
  ap parts_of are.2,
  are.3 state holds printed,
  pieces_are scene state holds printed pieces are.1 are.4,
)
