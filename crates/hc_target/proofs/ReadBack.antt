-- A normal path that is escaped is read back.
use Rattle.hc_target.proofs.Common.{◌≡◌, ℕ, ◌<◌, true, List, [], ◌∷◌, ◌++◌, ap, ◌∙◌, arith}
use Rattle.hc_target.proofs.Common.{after_first, before_first, list_all, and_parts, question, is_clean, escaped}
use Rattle.hc_target.proofs.Common.{is_normal, is_plain, is_question}
use Rattle.std.proofs.lemmas.Bool.Decides.{nat_tests}
use Rattle.hc_target.specs.declared.target.TargetRead.TheVariants.{Path}
use Rattle.hc_target.specs.Targets.{IsReadBack, found, read, read_sent}
use Rattle.hc_target.proofs.Escaping.{AreBytes, decoded_back, no_bad_escape, no_escaped_slash, no_question_in}
use Rattle.hc_target.proofs.Normal.{normal_kept}
use Rattle.hc_target.proofs.Queries.{after_none, after_query, before_none, before_query}

plain_byte : (b : ℕ) → is_plain b ≡ true → b < 256
plain_byte b plain = grind (arith, nat_tests)

plain_bytes : (path : List ℕ) → list_all is_plain path ≡ true → AreBytes path
plain_bytes [] h = tt
plain_bytes (b ∷ bs) h =
    let parts = and_parts (is_plain b) (list_all is_plain bs) h in (plain_byte b parts.0, plain_bytes bs parts.1)

sent_back : (path query : List ℕ) → is_normal path ≡ true → read_sent (escaped path) query ≡ Path path query
sent_back path query normal =
    let parts = and_parts (is_clean path) (list_all is_plain path) normal in
    let bytes = plain_bytes path parts.1 in
    rw (no_bad_escape path bytes, no_escaped_slash path bytes, decoded_back path bytes, parts.1)
    (ap (λ place. found place query) (normal_kept path parts.0))

read_parts : (target sent query : List ℕ) → before_first is_question target ≡ sent
    → after_first is_question target ≡ query → read target ≡ read_sent sent query
read_parts target sent query before after =
    ap (λ p. read_sent p (after_first is_question target)) before ∙ ap (read_sent sent) after

pub read_back : (path query : List ℕ) → IsReadBack path query
read_back path query normal =
    let none = no_question_in path (plain_bytes path (and_parts (is_clean path) (list_all is_plain path) normal).1) in (
      read_parts (escaped path) (escaped path) [] (before_none _ none) (after_none _ none) ∙ sent_back path [] normal,
      read_parts (escaped path ++ question ∷ query) (escaped path) query (before_query _ query none)
          (after_query _ query none) ∙ sent_back path query normal,
    )
