use Rattle.std.proofs.Common.{subst, sym}
use Rattle.hc_abs_authz.proofs.Lines.{client_line}
use Rattle.hc_abs_authz.proofs.Sequences.{one_leaf}
use Rattle.hc_abs_authz.specs.Asking.{MethodSays, says}
use Rattle.hc_abs_authz.specs.Methods.{is_one_of}
use Rattle.std.proofs.lemmas.Result.{IfOk-weaker}
use Rattle.hc_abs_pass.specs.Authorizing.{need_leaves}
use Rattle.hc_abs_authz.specs.Clients.{AreAnswers, is_local_to}
use Rattle.hc_abs_authz.specs.Leaves.{LineMay}
use Rattle.std.proofs.Common.{IfOk, true, false}
use Rattle.hc_abs_authz.proofs.leaves.need_answers.Goals as goal

pub returns-in-Granted : goal.returns-in-Granted
returns-in-Granted c =
    subst (λ need. AreAnswers (LineMay (says c.args.asking) (need_leaves c.args.asking.request.now need))
    c.of_clients.result)
    (sym c.in-Granted.is)
    (client_line c.args.asking.methods.now c.args.asking.net.now c.args.asking.some (λ client. true)
    c.fixed_answers.result c.of_clients.result c.requires c.fixed_answers.ensures c.of_clients.ensures)

pub returns-in-Denied : goal.returns-in-Denied
returns-in-Denied c =
    subst (λ need. AreAnswers (LineMay (says c.args.asking) (need_leaves c.args.asking.request.now need))
    c.of_clients-in-Denied.result)
    (sym c.in-Denied.is)
    (client_line c.args.asking.methods.now c.args.asking.net.now c.args.asking.some (λ client. false)
    c.fixed_answers-in-Denied.result c.of_clients-in-Denied.result c.requires c.fixed_answers-in-Denied.ensures
    c.of_clients-in-Denied.ensures)

pub returns-in-Method : goal.returns-in-Method
returns-in-Method c =
    subst (λ need. IfOk c.method_answers.result
    (AreAnswers (LineMay (says c.args.asking) (need_leaves c.args.asking.request.now need)))) (sym c.in-Method.is)
    (IfOk-weaker c.method_answers.result (AreAnswers (MethodSays c.args.asking c.as_slice-in-Method.result.now)) _
    (λ answers are. one_leaf (says c.args.asking) (λ client m. is_one_of c.in-Method.names m) answers
    (subst (λ names. AreAnswers (MethodSays c.args.asking names) answers) c.as_slice-in-Method.ensures are))
    c.method_answers.ensures)

pub returns-in-Local : goal.returns-in-Local
returns-in-Local c =
    subst (λ need. AreAnswers (LineMay (says c.args.asking) (need_leaves c.args.asking.request.now need))
    c.of_clients-in-Local.result)
    (sym c.in-Local.is)
    (client_line c.args.asking.methods.now c.args.asking.net.now c.args.asking.some
    (is_local_to c.args.asking.request.now.server) c.local_answers.result c.of_clients-in-Local.result c.requires
    c.local_answers.ensures c.of_clients-in-Local.ensures)
