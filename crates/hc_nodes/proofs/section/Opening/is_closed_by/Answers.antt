use Rattle.hc_nodes.proofs.Common.{ap, ◌∙◌, sym, ◌≡◌, ◌++◌, ◌∷◌, [], same_from_decides}
use Rattle.hc_nodes.proofs.Common.{bytes_eq-Decides, greater, less, slash, same_name}
use Rattle.hc_nodes.specs.Closes.{IsNoClose}
use Rattle.hc_nodes.proofs.Closes.{same_close, no_close}
use Rattle.hc_nodes.proofs.section.Opening.is_closed_by.Goals as goal

pub returns-in-Some : goal.returns-in-Some
returns-in-Some c =
    let opening = c.args.self.now in
    let text : c.args.line.now.text ≡ less ∷ slash ∷ c.in-Some.name.now ++ greater ∷ [] =
    sym (c.as_bytes.ensures.value ∙ c.as_str.ensures) ∙ c.in-Some.ensures in
    let same : c.eq_ignore_ascii_case.result ≡ same_name c.in-Some.name.now opening.name.now =
    same_from_decides _ _ (rw c.as_bytes-in-Some.ensures.value at c.eq_ignore_ascii_case.ensures.test)
    (bytes_eq-Decides _ _) in
    same ∙ ap (same_name c.in-Some.name.now) opening.is_named
    ∙ sym (same_close c.args.line.now.text c.in-Some.name.now _ text)

pub returns-in-None : goal.returns-in-None
returns-in-None c =
    let none : IsNoClose c.args.line.now.text = rw (c.as_bytes.ensures.value, c.as_str.ensures) at c.in-None.ensures in
    sym (no_close c.args.line.now.text _ none)
