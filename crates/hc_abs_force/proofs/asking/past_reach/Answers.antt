use Rattle.std.proofs.Common.{sym, subst}
use Rattle.std.proofs.lemmas.Result.{IfOk-weaker}
use Rattle.hc_merge.specs.Reaching.{chained, is_at, resolved}
use Rattle.hc_plan.specs.Slots.{Slot}
use Rattle.hc_abs_force.specs.Asking.{exprs, holding, in_slot, question_of}
use Rattle.hc_abs_force.specs.Marking.{AnswersFor, AreTried}
use Rattle.hc_abs_force.proofs.Tried.{never_tried}
use Rattle.hc_abs_force.proofs.asking.past_reach.Goals as goal

pub returns-in-Dir : goal.returns-in-Dir
returns-in-Dir c =
    IfOk-weaker c.all_alone.result _ _ (λ later are.
    subst (λ reach. AreTried (AnswersFor c.args.scene (question_of (resolved (exprs c.args.chain.now) reach)))
    c.args.parent c.args.before.items later.items) (sym c.in-Dir.is)
    (never_tried c.args.scene c.args.parent c.args.before.items later.items are)) c.all_alone.ensures

pub returns-in-DirSearch : goal.returns-in-DirSearch
returns-in-DirSearch c =
    IfOk-weaker c.searched.result _ _ (λ later are.
    subst (λ reach. AreTried (AnswersFor c.args.scene (question_of (resolved (exprs c.args.chain.now) reach)))
    c.args.parent c.args.before.items later.items) (sym c.in-DirSearch.is)
    (are c.args.scene)) c.searched.ensures

pub returns-in-Files : goal.returns-in-Files
returns-in-Files c =
    IfOk-weaker c.component_searched.result _ _ (λ later are.
    subst (λ reach. AreTried (AnswersFor c.args.scene (question_of (resolved (exprs c.args.chain.now) reach)))
    c.args.parent c.args.before.items later.items) (sym c.in-Files.is)
    (are c.args.scene)) c.component_searched.ensures

pub returns-in-Location : goal.returns-in-Location
returns-in-Location c =
    IfOk-weaker c.at_location.result _ _ (λ later are.
    subst (λ reach. AreTried (AnswersFor c.args.scene (question_of (resolved (exprs c.args.chain.now) reach)))
    c.args.parent c.args.before.items later.items) (sym c.in-Location.is)
    (subst (λ path. AreTried (AnswersFor c.args.scene (in_slot Slot.Path (is_at path))) c.args.parent
    c.args.before.items later.items) c.as_bytes.ensures (are c.args.scene))) c.at_location.ensures

pub returns-in-LocationGlob : goal.returns-in-LocationGlob
returns-in-LocationGlob c =
    IfOk-weaker c.searched-in-LocationGlob.result _ _ (λ later are.
    subst (λ reach. AreTried (AnswersFor c.args.scene (question_of (resolved (exprs c.args.chain.now) reach)))
    c.args.parent c.args.before.items later.items) (sym c.in-LocationGlob.is)
    (are c.args.scene)) c.searched-in-LocationGlob.ensures

pub returns-in-LocationSearch : goal.returns-in-LocationSearch
returns-in-LocationSearch c =
    IfOk-weaker c.searched-in-LocationSearch.result _ _ (λ later are.
    subst (λ reach. AreTried (AnswersFor c.args.scene (question_of (resolved (exprs c.args.chain.now) reach)))
    c.args.parent c.args.before.items later.items) (sym c.in-LocationSearch.is)
    (are c.args.scene)) c.searched-in-LocationSearch.ensures

pub returns-in-When : goal.returns-in-When
returns-in-When c =
    IfOk-weaker c.all_held.result _ _ (λ later are.
    subst (λ reach. AreTried (AnswersFor c.args.scene (question_of (resolved (exprs c.args.chain.now) reach)))
    c.args.parent c.args.before.items later.items) (sym c.in-When.is)
    (subst (λ chain. AreTried (AnswersFor c.args.scene (holding (chained (exprs chain) c.in-When.expr)))
    c.args.parent c.args.before.items later.items) c.split_at.ensures.front are)) c.all_held.ensures
