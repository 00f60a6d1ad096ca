use Rattle.std.proofs.Common.{◌≡◌, ◌∙◌, [], refl, sym, subst, take, drop, map, arith, eqb-true}
use Rattle.std.specs.Vec.{vec_len}
use Rattle.std.proofs.lemmas.List.{nil_from_length, take-append-drop, take_rest}
use Rattle.hc_dfa.specs.Automata.{accepts}
use Rattle.hc_pat_lang.proofs.Joining.{put_before}
use Rattle.hc_pat_lang.specs.Sets.{AcceptsOnly, AreJoined}
use Rattle.hc_pat_lang.proofs.joined.concat_all.Goals as goal

pub returns : goal.returns
returns c =
    let sets = c.args.sets.now in
    let count = c.in_ok-front.front.count in
    subst (λ sets. AcceptsOnly (AreJoined (map accepts sets)) c.in_ok-made.made) (take-append-drop count sets)
    (put_before (take count sets) (drop count sets) c.in_ok-front.front.text.items c.in_ok-rest.rest c.in_ok-made.made
    c.in_ok-front.ensures.only (rw (take_rest sets count) at c.in_ok-rest.ensures) (rw c.deref.ensures.value at c.in_ok-made.ensures))

pub returns-then-is_empty : goal.returns-then-is_empty
returns-then-is_empty c =
    let sets = c.args.sets.now in
    let count = c.in_ok-front.front.count in
    let none : c.in_ok-front.front.text.items ≡ [] =
    (let zero = eqb-true (vec_len c.in_ok-front.front.text) 0 (sym c.is_empty.ensures ∙ c.if-is_empty.true) in
    nil_from_length _ (omega (arith, zero))) in
    subst (λ sets. AcceptsOnly (AreJoined (map accepts sets)) c.in_ok-rest.rest) (take-append-drop count sets)
    (put_before (take count sets) (drop count sets) [] c.in_ok-rest.rest c.in_ok-rest.rest
    (rw none at c.in_ok-front.ensures.only) (rw (take_rest sets count) at c.in_ok-rest.ensures)
    (λ text bytes. refl))
