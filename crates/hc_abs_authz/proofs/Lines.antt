-- What the leaves of a line may say.
use Rattle.std.proofs.Common.{◌≡◌, ◌∙◌, ◌↔◌, ℕ, ◌<◌, List, [], ◌∷◌, Bool, true, false}
use Rattle.std.proofs.Common.{not, refl, sym, ap, subst, true≢false, nat_lt}
use Rattle.std.proofs.lemmas.Bool.{and_parts, not-true}
use Rattle.std.proofs.Common.{◌+◌, ◌≤◌, add-one, drop, drop-cons, get_or, length, map}
use Rattle.std.proofs.Math.ListN.{drop_of_length-le}
use Rattle.std.specs.List.{list_all}
use Rattle.hc_addr.specs.declared.addr.Addr.{Addr}
use Rattle.hc_addr.specs.declared.net.Net.{Net}
use Rattle.hc_dfa.specs.Automata.{Automaton, accepts}
use Rattle.hc_dfa.specs.Built.{Accepts, product_of}
use Rattle.hc_dfa.specs.Texts.{IsText}
use Rattle.hc_dfa.specs.declared.products.Keep.TheVariants.{Both, FirstOnly}
use Rattle.hc_plan.proofs.Made.{is_text, text_is}
use Rattle.hc_plan.specs.Hands.{set_in}
use Rattle.hc_abs_pass.specs.Authorizing.{Leaf, in_net}
use Rattle.hc_abs_authz.specs.Admitting.{clients_of}
use Rattle.hc_abs_authz.specs.Clients.{AreAnswers, ClientMay}
use Rattle.hc_abs_authz.specs.Leaves.{LineMay, Says, either_of, gives, where_some}
use Rattle.hc_abs_authz.specs.Methods.{HasAnswer, is_one_of}
use Rattle.hc_abs_authz.specs.declared.answers.Answers.{Answers}
use Rattle.hc_abs_authz.proofs.Sequences.{SoFar, ends_at, goes_on, one_leaf}
use Rattle.hc_abs_authz.proofs.ValueSets.{are_answers, each_answer, where_some_may}
use Rattle.hc_abs_authz.proofs.Common.{both}

module _ (set : Automaton) where
  in_bytes : (m : List ℕ) → IsText m → accepts set m ≡ true → set_in set m ≡ true
  in_bytes m bytes is = both (list_all (λ b. nat_lt b 256) m) (accepts set m) (text_is m bytes) is

  out_of_bytes : (m : List ℕ) → set_in set m ≡ true → IsText m × (accepts set m ≡ true)
  out_of_bytes m is =
      let parts = and_parts (list_all (λ b. nat_lt b 256) m) (accepts set m) is in (is_text m parts.0, parts.1)

  a_method : (some : Bool) → HasAnswer (accepts set) some → some ≡ true → (m : List ℕ) × (set_in set m ≡ true)
  a_method true known is = (known.0, in_bytes known.0 known.1 known.2)
  a_method false known is = absurd (true≢false (sym is))

  is_some : (some : Bool) → HasAnswer (accepts set) some → (m : List ℕ) → set_in set m ≡ true → some ≡ true
  is_some true known m is = refl
  is_some false known m is =
      let parts = out_of_bytes m is in absurd (true≢false (sym parts.1 ∙ known m parts.0))

  -- A test of the client alone.
  pub client_leaf : (net : Net) (some : Bool) (test : Addr → Bool) (answers : Answers) → HasAnswer (accepts set) some
      → AreAnswers (ClientMay net test) answers
      → AreAnswers (Says net (set_in set) (λ client m. test client)) (where_some some answers)
  client_leaf net some test answers known are =
      are_answers (where_some some answers) (λ is. (
        λ held. let parts = and_parts some (gives answers is) (sym (where_some_may some answers is) ∙ held) in
            let method = a_method some known parts.0 in
            let client = (each_answer are is).0 parts.1 in
            (client.0, method.0, client.1, method.1, client.2),
        λ may. where_some_may some answers is
            ∙ both some (gives answers is) (is_some some known may.1 may.3)
            ((each_answer are is).1 (may.0, may.2, may.4)),
      ))

  pub client_line : (net : Net) (some : Bool) (test : Addr → Bool) (answers made : Answers)
      → HasAnswer (accepts set) some → AreAnswers (ClientMay net test) answers → made ≡ where_some some answers
      → AreAnswers (LineMay (Says net (set_in set)) ((λ client m. test client) ∷ [])) made
  client_line net some test answers made known are is =
      one_leaf (Says net (set_in set)) (λ client m. test client) made
      (subst (AreAnswers (Says net (set_in set) (λ client m. test client))) (sym is)
      (client_leaf net some test answers known are))

  -- A test of the method alone.
  module _ (net : Net) (client : Addr) (mine : clients_of net client ≡ true) (names : List (List ℕ)) (own : Automaton)
      (is_own : Accepts own (is_one_of names)) where
    abbrev MethodMay : Bool → Type 0
    MethodMay = Says net (set_in set) (λ client m. is_one_of names m)

    may_be : (found : Bool) → HasAnswer (product_of Both set own) found → (found ≡ true) ↔ MethodMay true
    may_be true known = (
      λ held. let parts = and_parts (accepts set known.0) (accepts own known.0) known.2 in
          (client, known.0, mine, in_bytes known.0 known.1 parts.0, sym (is_own known.0 known.1) ∙ parts.1),
      λ may. refl,
    )
    may_be false known = (
      λ held. absurd (true≢false (sym held)),
      λ may. let parts = out_of_bytes may.1 may.3 in
          absurd (true≢false (sym (both (accepts set may.1) (accepts own may.1) parts.1
          (is_own may.1 parts.0 ∙ may.4)) ∙ known may.1 parts.0)),
    )

    may_not_be : (found : Bool) → HasAnswer (product_of FirstOnly set own) found → (found ≡ true) ↔ MethodMay false
    may_not_be true known = (
      λ held. let parts = and_parts (accepts set known.0) (not (accepts own known.0)) known.2 in (
        client,
        known.0,
        mine,
        in_bytes known.0 known.1 parts.0,
        sym (is_own known.0 known.1) ∙ not-true (accepts own known.0) parts.1,
      ),
      λ may. refl,
    )
    may_not_be false known = (
      λ held. absurd (true≢false (sym held)),
      λ may. let parts = out_of_bytes may.1 may.3 in
          absurd (true≢false (sym (both (accepts set may.1) (not (accepts own may.1)) parts.1
          (ap not (is_own may.1 parts.0 ∙ may.4))) ∙ known may.1 parts.0)),
    )

    pub method_leaf : (held free : Bool) → HasAnswer (product_of Both set own) held
        → HasAnswer (product_of FirstOnly set own) free → AreAnswers MethodMay (record { yes = held; no = free })
    method_leaf held free is isnt = record { yes = may_be held is; no = may_not_be free isnt }

-- ---- a line of networks

module _ (MaySay : Leaf → Bool → Type 0) (nets : List Net) where
  pub next_net : (i : ℕ) (d : Net) (answers more made : Answers) → i < length nets
      → SoFar MaySay (map in_net nets) (map in_net (drop i nets)) answers
      → AreAnswers (MaySay (in_net (get_or nets i d))) more → made ≡ either_of answers more
      → SoFar MaySay (map in_net nets) (map in_net (drop (i + 1) nets)) made
  next_net i d answers more made within so_far are is =
      let rest : drop i nets ≡ get_or nets i d ∷ drop (i + 1) nets =
      drop-cons nets i d within ∙ ap (λ j. get_or nets i d ∷ drop j nets) (sym (add-one i)) in
      subst (SoFar MaySay (map in_net nets) (map in_net (drop (i + 1) nets))) (sym is)
      (goes_on MaySay (map in_net nets) (map in_net (drop (i + 1) nets)) (in_net (get_or nets i d)) answers more
      (subst (λ left. SoFar MaySay (map in_net nets) (map in_net left) answers) rest so_far) are)

  pub past_nets : (i : ℕ) (answers : Answers) → length nets ≤ i
      → SoFar MaySay (map in_net nets) (map in_net (drop i nets)) answers
      → AreAnswers (LineMay MaySay (map in_net nets)) answers
  past_nets i answers past so_far =
      ends_at MaySay (map in_net nets) (map in_net (drop i nets)) answers
      (ap (map in_net) (drop_of_length-le nets past)) so_far
