-- What parts do, by the sets of the parts and of what leads to a server.
use Rattle.std.proofs.Common.{◌≡◌, ◌≢◌, ℕ, ◌↔◌, inl, inr, List, [], ◌∷◌, ◌++◌, Bool, true, false, not}
use Rattle.std.proofs.Common.{append-nil, append_assoc, refl, sym, ◌∙◌, ap, subst, IsTrue}
use Rattle.std.proofs.lemmas.Bool.{and_from, and_parts, not-true, not_from_false}
use Rattle.hc_dfa.specs.Automata.{Automaton, accepts}
use Rattle.hc_dfa.specs.Built.{Accepts, product_of}
use Rattle.hc_dfa.specs.Texts.{IsText}
use Rattle.hc_dfa.specs.declared.products.Keep.TheVariants.{Both}
use Rattle.hc_follow.specs.declared.origin.Origin.{Origin}
use Rattle.hc_forms.specs.Forms.{is_target_byte}
use Rattle.hc_pat_lang.specs.Fragments.{Exists}
use Rattle.hc_pat_lang.specs.Sets.{AcceptsOnly, IsJoined}
use Rattle.hc_rw_sets.proofs.Joins.{joined_text, text_parts}
use Rattle.hc_sent.proofs.Joining.{put_together, taken_apart}
use Rattle.hc_sent.proofs.Texts.{bare_text, of_both, parts_text}
use Rattle.hc_sent.specs.Deeds.{AreThrough, Does, GivesQueryIn, GivesQuestionIn, is_as_is, is_escaped}
use Rattle.hc_sent.specs.Joints.{AreJoints, IsJoint}
use Rattle.hc_sent.specs.Parts.{Joined, bare}
use Rattle.hc_sent.specs.Sets.{HasText, IsAnswer}
use Rattle.hc_sent.specs.Sites.{IsWay, LeadsTo}
use Rattle.hc_sent.specs.Ways.{GivesQuery, GivesQuestion, HasByte, HidesQuestion, IsFirst, IsHigh, IsOpen, MayStay}
use Rattle.hc_sent.specs.Ways.{Stands, is_filled, is_high, may_escape, may_stay}
use Rattle.hc_sent.specs.declared.deeds.Deed.TheVariants.{Hides, Opens, Rises, Stays}
use Rattle.hc_sent.specs.declared.joints.Joint.{Joint}
use Rattle.hc_sent.specs.declared.parts.Part.{Part}
use Rattle.hc_sent.specs.declared.parts.Writing.{Writing}
use Rattle.hc_sent.specs.declared.parts.Writing.TheVariants.{AsIs, Escaped, Query, QueryAsIs}
use Rattle.hc_sent.specs.declared.ways.Way.{Way}

-- ---- texts of sets, one behind the other

pub through : (front own begun marked both rest all whole met : Automaton)
    → AcceptsOnly (IsJoined (accepts front) (accepts own)) begun → Accepts both (product_of Both begun marked)
    → AcceptsOnly (IsJoined (accepts both) (accepts rest)) all → Accepts met (product_of Both all whole)
    → HasText (accepts met)
    ↔ AreThrough (accepts front) (accepts own) (accepts marked) (accepts rest) (accepts whole)
through front own begun marked both rest all whole met of_begun of_marked of_all of_met = (
  (λ is.
      let parts = (of_both all whole met is.0 is.1 of_met).0 is.2 in
      let cut = (of_all is.0 is.1).0 parts.0 in
      let bytes = text_parts cut.front cut.back (subst IsText (sym cut.joined) is.1) in
      let first = (of_both begun marked both cut.front bytes.0 of_marked).0 cut.begins in
      let two = (of_begun cut.front bytes.0).0 first.0 in
      let inner = text_parts two.front two.back (subst IsText (sym two.joined) bytes.0) in
      record {
        front = two.front;
        text = two.back;
        rest = cut.back;
        front_bytes = inner.0;
        text_bytes = inner.1;
        rest_bytes = bytes.1;
        in_front = two.begins;
        in_own = two.goes_on;
        in_marked = rw two.joined first.1;
        in_rest = cut.goes_on;
        in_whole = rw (two.joined, cut.joined) parts.1;
      }),
  (λ is.
      let bytes = joined_text is.front is.text is.front_bytes is.text_bytes in
      let total = joined_text (is.front ++ is.text) is.rest bytes is.rest_bytes in
      let begins = (of_both begun marked both (is.front ++ is.text) bytes of_marked).1 (
        (of_begun (is.front ++ is.text) bytes).1 (record {
          front = is.front;
          back = is.text;
          begins = is.in_front;
          goes_on = is.in_own;
          joined = refl;
        }),
        is.in_marked,
      ) in (
        is.front ++ is.text ++ is.rest,
        total,
        (of_both all whole met (is.front ++ is.text ++ is.rest) total of_met).1 (
          (of_all (is.front ++ is.text ++ is.rest) total).1 (record {
            front = is.front ++ is.text;
            back = is.rest;
            begins = begins;
            goes_on = is.in_rest;
            joined = refl;
          }),
          is.in_whole,
        ),
      )),
)

-- ---- a part at a place

-- A part that does it, with those before and behind it.
record Found (P : Joint → Type 0) (parts : List Part) : Type 0 where
  earlier : List Part
  part : Part
  later : List Part
  joint : Joint
  split : parts ≡ earlier ++ part ∷ later
  is : IsJoint earlier part later joint
  holds : P joint

found : (P : Joint → Type 0) (earlier later : List Part) (joints : List Joint) → AreJoints earlier later joints
    → Exists P joints → Found P (earlier ++ later)
found P earlier [] [] are some = absurd some
found P earlier [] (joint ∷ joints) are some = absurd are
found P earlier (part ∷ later) [] are some = absurd are
found P earlier (part ∷ later) (joint ∷ joints) are (inl here) =
    record { earlier = earlier; part = part; later = later; joint = joint; split = refl; is = are.0; holds = here }
found P earlier (part ∷ later) (joint ∷ joints) are (inr there) =
    subst (Found P) (append_assoc earlier (part ∷ []) later) (found P (earlier ++ part ∷ []) later joints are.1 there)

there : (P : Joint → Type 0) (earlier parts : List Part) (joints : List Joint) → AreJoints earlier parts joints
    → (front : List Part) (part : Part) (later : List Part) → parts ≡ front ++ part ∷ later
    → ((joint : Joint) → IsJoint (earlier ++ front) part later joint → P joint) → Exists P joints
there P earlier [] [] are [] part later split does = absurd (cc)
there P earlier [] [] are (own ∷ front) part later split does = absurd (cc)
there P earlier [] (joint ∷ joints) are front part later split does = absurd are
there P earlier (own ∷ parts) [] are front part later split does = absurd are
there P earlier (own ∷ parts) (joint ∷ joints) are [] part later split does =
    let same : own ≡ part = cc in
    let rest : parts ≡ later = cc in
    inl (does joint (rw append-nil (subst (λ own. IsJoint earlier own later joint) same
    (subst (λ parts. IsJoint earlier own parts joint) rest are.0))))
there P earlier (own ∷ parts) (joint ∷ joints) are (first ∷ front) part later split does =
    let same : own ≡ first = cc in
    let rest : parts ≡ front ++ part ∷ later = cc in
    inr (there P (earlier ++ own ∷ []) parts joints are.1 front part later rest
    (λ joint is.
    does joint (subst (λ own. IsJoint (earlier ++ own ∷ front) part later joint) same
    (subst (λ earlier. IsJoint earlier part later joint) (append_assoc earlier (own ∷ []) front) is))))

-- ---- a part of what leads to a server

answered : {P : Type 0} (is : Bool) → IsAnswer P is → P → is ≡ true
answered true said held = refl
answered false said held = absurd (said held)

filled_some : (text : List ℕ) → is_filled text ≡ true → text ≢ []
filled_some text is none = absurd (let none : is_filled [] ≡ true = subst (λ text. is_filled text ≡ true) none is in cc)

some_filled : (text : List ℕ) → text ≢ [] → is_filled text ≡ true
some_filled [] some = absurd (some refl)
some_filled (b ∷ text) some = refl

escaped_is : (writing : Writing) → is_escaped writing ≡ true → writing ≡ Escaped
escaped_is Escaped is = refl
escaped_is AsIs is = absurd (cc)
escaped_is Query is = absurd (cc)
escaped_is QueryAsIs is = absurd (cc)

as_is_is : (writing : Writing) → is_as_is writing ≡ true → writing ≡ AsIs
as_is_is AsIs is = refl
as_is_is Escaped is = absurd (cc)
as_is_is Query is = absurd (cc)
as_is_is QueryAsIs is = absurd (cc)

pub stands_lead : (parts : List Part) (before : List Origin) (origin : Origin) (part : Part) (front own : List ℕ)
    (stands : Stands parts before origin part front own) → LeadsTo parts before origin (front ++ own ++ stands.rest)
stands_lead parts before origin part front own stands =
    let tail : Joined (part ∷ stands.later) (own ++ stands.rest) =
    (stands.text, stands.rest, stands.of, stands.goes_on, ap (λ own. own ++ stands.rest) stands.is) in
    let whole = put_together stands.earlier (part ∷ stands.later) front (own ++ stands.rest) stands.begins tail in (
      subst (λ parts. Joined parts (front ++ own ++ stands.rest)) (sym stands.split)
          (subst (Joined (stands.earlier ++ part ∷ stands.later)) (sym (append_assoc front own stands.rest)) whole),
      (stands.behind, stands.first),
    )

module _ (parts : List Part) (before : List Origin) (origin : Origin) (way : Way)
    (is_way : IsWay parts before origin way)
  where
    -- What stands there, as texts of sets.
    record InSets (joint : Joint) (front own : List ℕ) : Type 0 where
      rest : List ℕ
      front_bytes : IsText front
      own_bytes : IsText own
      rest_bytes : IsText rest
      in_front : IsTrue (accepts joint.before front)
      in_own : IsTrue (accepts joint.own own)
      in_rest : IsTrue (accepts joint.behind rest)
      in_whole : IsTrue (accepts way.texts (front ++ own ++ rest))

    module _ (earlier : List Part) (part : Part) (later : List Part) (split : parts ≡ earlier ++ part ∷ later)
        (joint : Joint) (is : IsJoint earlier part later joint) where
      standing : (front own : List ℕ) → InSets joint front own → Stands parts before origin part front own
      standing front own sets =
          let bytes = joined_text (front ++ own) sets.rest (joined_text front own sets.front_bytes sets.own_bytes)
          sets.rest_bytes in
          let leads = (is_way.texts (front ++ own ++ sets.rest) bytes).0 sets.in_whole in
          let text = (is.own own sets.own_bytes).0 sets.in_own in
          record {
            earlier = earlier;
            later = later;
            split = split;
            begins = (is.before front sets.front_bytes).0 sets.in_front;
            text = text.0;
            of = text.1;
            is = text.2;
            rest = sets.rest;
            goes_on = (is.behind sets.rest sets.rest_bytes).0 sets.in_rest;
            behind = leads.1.0;
            first = leads.1.1;
          }

      gives_query : GivesQueryIn way joint → GivesQuery parts before origin part
      gives_query through =
          let own = and_parts (accepts joint.own through.text) (is_filled through.text) through.in_own in
          let bytes = joined_text through.front through.text through.front_bytes through.text_bytes in
          record {
            front = through.front;
            own = through.text;
            stands = standing through.front through.text (record {
              rest = through.rest;
              front_bytes = through.front_bytes;
              own_bytes = through.text_bytes;
              rest_bytes = through.rest_bytes;
              in_front = through.in_front;
              in_own = own.0;
              in_rest = through.in_rest;
              in_whole = through.in_whole;
            });
            some = filled_some through.text own.1;
            query = sym (is_way.asking (through.front ++ through.text) bytes) ∙ through.in_marked;
          }

      gives_question : GivesQuestionIn way joint → GivesQuestion parts before origin part
      gives_question through =
          let clear = and_parts (accepts joint.before through.front) _ through.in_front in
          let bytes = joined_text through.front through.text through.front_bytes through.text_bytes in
          record {
            front = through.front;
            own = through.text;
            stands = standing through.front through.text (record {
              rest = through.rest;
              front_bytes = through.front_bytes;
              own_bytes = through.text_bytes;
              rest_bytes = through.rest_bytes;
              in_front = clear.0;
              in_own = through.in_own;
              in_rest = through.in_rest;
              in_whole = through.in_whole;
            });
            none = sym (is_way.asked through.front through.front_bytes) ∙ not-true _ clear.1;
            question = sym (is_way.asked (through.front ++ through.text) bytes) ∙ through.in_marked;
          }

      some_stands : HasText (accepts way.texts)
          → (front : List ℕ) × (own : List ℕ) × Stands parts before origin part front own
      some_stands text =
          let leads = (is_way.texts text.0 text.1).0 text.2 in
          let apart = taken_apart earlier (part ∷ later) text.0 (subst (λ parts. Joined parts text.0) split leads.0) in
          let own : List ℕ = bare part.writing apart.3.0 in
          let whole : text.0 ≡ apart.0 ++ own ++ apart.3.1 =
          apart.4 ∙ ap (λ back. apart.0 ++ back) apart.3.4 ∙ sym (append_assoc apart.0 own apart.3.1) in (
            apart.0,
            own,
            record {
              earlier = earlier;
              later = later;
              split = split;
              begins = apart.2;
              text = apart.3.0;
              of = apart.3.2;
              is = refl;
              rest = apart.3.1;
              goes_on = apart.3.3;
              behind = leads.1.0;
              first = subst (λ text. IsFirst before origin text leads.1.0) whole leads.1.1;
            },
          )

    whole_in : (part : Part) (front own : List ℕ) (stands : Stands parts before origin part front own)
        → HasText (accepts way.texts)
    whole_in part front own stands =
        let leads = stands_lead parts before origin part front own stands in
        let bytes = parts_text parts (front ++ own ++ stands.rest) leads.0 in
        (front ++ own ++ stands.rest, bytes, (is_way.texts (front ++ own ++ stands.rest) bytes).1 leads)

    in_sets : (part : Part) (front own : List ℕ) (stands : Stands parts before origin part front own) (joint : Joint)
        → IsJoint stands.earlier part stands.later joint → InSets joint front own
    in_sets part front own stands joint is =
        let leads = stands_lead parts before origin part front own stands in
        let whole = parts_text parts (front ++ own ++ stands.rest) leads.0 in
        let front_bytes = parts_text stands.earlier front stands.begins in
        let own_bytes = bare_text part own (stands.text, stands.of, stands.is) in
        let rest_bytes = parts_text stands.later stands.rest stands.goes_on in
        record {
          rest = stands.rest;
          front_bytes = front_bytes;
          own_bytes = own_bytes;
          rest_bytes = rest_bytes;
          in_front = (is.before front front_bytes).1 stands.begins;
          in_own = (is.own own own_bytes).1 (stands.text, stands.of, stands.is);
          in_rest = (is.behind stands.rest rest_bytes).1 stands.goes_on;
          in_whole = (is_way.texts (front ++ own ++ stands.rest) whole).1 leads;
        }

    of_query : (part : Part) (gives : GivesQuery parts before origin part) (joint : Joint)
        → IsJoint gives.stands.earlier part gives.stands.later joint → GivesQueryIn way joint
    of_query part gives joint is =
        let sets = in_sets part gives.front gives.own gives.stands joint is in
        let bytes = joined_text gives.front gives.own sets.front_bytes sets.own_bytes in
        record {
          front = gives.front;
          text = gives.own;
          rest = sets.rest;
          front_bytes = sets.front_bytes;
          text_bytes = sets.own_bytes;
          rest_bytes = sets.rest_bytes;
          in_front = sets.in_front;
          in_own = and_from _ _ sets.in_own (some_filled gives.own gives.some);
          in_marked = is_way.asking (gives.front ++ gives.own) bytes ∙ gives.query;
          in_rest = sets.in_rest;
          in_whole = sets.in_whole;
        }

    of_question : (part : Part) (gives : GivesQuestion parts before origin part) (joint : Joint)
        → IsJoint gives.stands.earlier part gives.stands.later joint → GivesQuestionIn way joint
    of_question part gives joint is =
        let sets = in_sets part gives.front gives.own gives.stands joint is in
        let bytes = joined_text gives.front gives.own sets.front_bytes sets.own_bytes in
        record {
          front = gives.front;
          text = gives.own;
          rest = sets.rest;
          front_bytes = sets.front_bytes;
          text_bytes = sets.own_bytes;
          rest_bytes = sets.rest_bytes;
          in_front = and_from _ _ sets.in_front
              (not_from_false _ (is_way.asked gives.front sets.front_bytes ∙ gives.none));
          in_own = sets.in_own;
          in_marked = is_way.asked (gives.front ++ gives.own) bytes ∙ gives.question;
          in_rest = sets.in_rest;
          in_whole = sets.in_whole;
        }

    -- ---- some part

    module _ (joints : List Joint) (are : AreJoints [] parts joints) where
      pub opens : Exists (Does way Opens) joints ↔ IsOpen parts before origin
      opens = (
        (λ some.
            let one = found (Does way Opens) [] parts joints are some in (
              one.part,
              subst (λ writing. may_escape writing ≡ true) one.is.writing one.holds.0,
              gives_query one.earlier one.part one.later one.split one.joint one.is one.holds.1,
            )),
        (λ is.
            let stands = is.2.stands in
            there (Does way Opens) [] parts joints are stands.earlier is.0 stands.later stands.split
            (λ joint own. (
              subst (λ writing. may_escape writing ≡ true) (sym own.writing) is.1,
              of_query is.0 is.2 joint own,
            ))),
      )

      pub hides : Exists (Does way Hides) joints ↔ HidesQuestion parts before origin
      hides = (
        (λ some.
            let one = found (Does way Hides) [] parts joints are some in (
              one.part,
              sym one.is.writing ∙ escaped_is one.joint.writing one.holds.0,
              gives_question one.earlier one.part one.later one.split one.joint one.is one.holds.1,
            )),
        (λ is.
            let stands = is.2.stands in
            there (Does way Hides) [] parts joints are stands.earlier is.0 stands.later stands.split
            (λ joint own. (ap is_escaped (own.writing ∙ is.1), of_question is.0 is.2 joint own))),
      )

      pub stays : Exists (Does way Stays) joints ↔ MayStay parts before origin
      stays = (
        (λ some.
            let one = found (Does way Stays) [] parts joints are some in
            let apt = and_parts (may_stay one.joint.writing) one.joint.strays one.holds.0 in (
              one.part,
              subst (λ writing. may_stay writing ≡ true) one.is.writing apt.0,
              gives_query one.earlier one.part one.later one.split one.joint one.is one.holds.1,
              subst (IsAnswer (HasByte one.part (λ b. not (is_target_byte b)))) apt.1 one.is.strays,
            )),
        (λ is.
            let stands = is.2.stands in
            there (Does way Stays) [] parts joints are stands.earlier is.0 stands.later stands.split
            (λ joint own. (
              and_from (may_stay joint.writing) joint.strays
                  (subst (λ writing. may_stay writing ≡ true) (sym own.writing) is.1)
                  (answered joint.strays own.strays is.3),
              of_query is.0 is.2 joint own,
            ))),
      )

      pub rises : Exists (Does way Rises) joints ↔ IsHigh parts before origin
      rises = (
        (λ some.
            let one = found (Does way Rises) [] parts joints are some in
            let apt = and_parts (is_as_is one.joint.writing) one.joint.rises one.holds.0 in
            let text = some_stands one.earlier one.part one.later one.split one.joint one.is one.holds.1 in (
              one.part,
              text.0,
              text.1,
              text.2,
              sym one.is.writing ∙ as_is_is one.joint.writing apt.0,
              subst (IsAnswer (HasByte one.part is_high)) apt.1 one.is.rises,
            )),
        (λ is.
            there (Does way Rises) [] parts joints are is.3.earlier is.0 is.3.later is.3.split
            (λ joint own. (
              and_from (is_as_is joint.writing) joint.rises (ap is_as_is (own.writing ∙ is.4))
                  (answered joint.rises own.rises is.5),
              whole_in is.0 is.1 is.2 is.3,
            ))),
      )
