-- What the attempt of a rule leaves.
use Rattle.std.proofs.Common.{◌≡◌, ◌∙◌, ℕ, zero, suc, ◌+◌, ◌<◌, ◌≤◌, ◌==◌, nat_le, nat_lt, List, [], ◌++◌, length, Bool}
use Rattle.std.proofs.Common.{true, false, ◌&&◌, ◌||◌, not, Option, Some, None, is_some, if◌then◌else◌, min, refl}
use Rattle.std.proofs.Common.{sym, ap, ap₂, true≢false, leb-true, arith}
use Rattle.std.proofs.Math.Dec.{eqb-suc-zero}
use Rattle.std.proofs.lemmas.Bool.{and_parts}
use Rattle.hc_model.specs.declared.rewrite.Flags.{Flags}
use Rattle.hc_model.specs.declared.rewrite.Rule.{Rule}
use Rattle.hc_model.specs.declared.template.Piece.{Piece}
use Rattle.hc_rank.specs.Ranks.{begins_shorter, enough_rounds, fits, has_substitution, is_not_longer, is_shorter}
use Rattle.hc_rank.specs.Ranks.{shortens_by, stops_list}
use Rattle.hc_rank.specs.Ranks.{redirects as has_redirect}
use Rattle.hc_rounds.proofs.Lengths.{no_info}
use Rattle.hc_rounds.proofs.Placing.{IsPlaced, made_short}
use Rattle.hc_rounds.proofs.Staying.{IsLike, IsTestedLike, conds_like, variables_like}
use Rattle.hc_rounds.proofs.Steps.{Any, Gives, gives_any, gives_as, gives_if, gives_then, gives_where}
use Rattle.hc_rounds.proofs.Templates.{form_short}
use Rattle.hc_rounds.specs.Shortening.{HasNoInfo, length_in}
unfoldable use Rattle.hc_rw_eval.specs.Attempts.{attempt, if_tested, matched, not_matched, pattern_held, pattern_tried}
use Rattle.hc_rw_eval.specs.Attempts.{found_in, groups_of, with_found}
use Rattle.hc_rw_eval.specs.Conditions.{conds_tried, counted, is_found, matched_of}
use Rattle.hc_rw_eval.specs.Directories.{subject_in, within}
use Rattle.hc_rw_eval.specs.Lists.{stops_run}
unfoldable use Rattle.hc_rw_eval.specs.Substitutions.{applied, substituted, unless_answered}
use Rattle.hc_rw_eval.specs.Substitutions.{info_left, redirect_status, redirects, status_of, text_made, variables_set}
use Rattle.hc_rw_eval.specs.Substitutions.{with_state, with_text}
use Rattle.hc_rw_eval.specs.declared.attempt.Attempt.{Attempt}
use Rattle.hc_rw_eval.specs.declared.attempt.Rewritten.{Rewritten}
use Rattle.hc_rw_eval.specs.declared.substitution.TheConstants.{FORBIDDEN, GONE, LONGEST_TEXT}
use Rattle.hc_rw_expand.specs.Contexts.{Context, Engine}
use Rattle.hc_rw_expand.specs.Groups.{matched_in}
use Rattle.hc_rw_expand.specs.Lookups.{Looks, expanded}
use Rattle.hc_rw_expand.specs.Values.{filling_in}
use Rattle.hc_rw_expand.specs.declared.groups.Matched.{Matched}
use Rattle.hc_rw_expand.specs.declared.state.RwState.{RwState}
use Rattle.hc_ways.specs.Kept.{Held, first_match}

-- ---- what is left

-- Without path information, and no longer than so many bytes.
abbrev pub IsWithin : Context → ℕ → RwState → Type 0
IsWithin context most state = HasNoInfo context.engine state × (length_in context state ≤ most)

-- Where there was no path information before, the text is no longer.
abbrev pub Kept : Context → RwState → RwState → Type 0
Kept context before left = HasNoInfo context.engine before → IsWithin context (length_in context before) left

-- A further round begins: with a short text, and with a shorter one than before.
pub record Begins (context : Context) (rule : Rule) (before left : RwState) : Type 0 where
  pub bound : enough_rounds ≤ rule.flags.rounds
  pub info : HasNoInfo context.engine left
  pub longest : length_in context left ≤ LONGEST_TEXT
  pub shorter : length_in context left < length_in context before

-- By whether the rule matched, whether it stops the list, and whether it begins a further round.
abbrev pub Leaves : Context → Rule → RwState → Bool → Bool → Bool → RwState → Type 0
Leaves context rule before false stops next left = Kept context before left
Leaves context rule before true true next left = Unit {0}
Leaves context rule before true false true left = Begins context rule before left
Leaves context rule before true false false left = Kept context before left

abbrev pub AttemptLeaves : Context → Rule → RwState → Attempt → Type 0
AttemptLeaves context rule before attempt =
    Leaves context rule before attempt.matched (stops_run rule.flags) rule.flags.next attempt.left.state

-- ---- the text that a pattern is looked for in

same_subject : (engine : Option Engine) (one other : RwState) → other.text ≡ one.text → other.info ≡ one.info
    → length (subject_in engine other) ≡ length (subject_in engine one)
same_subject None one other text info = ap length text
same_subject (Some engine) one other text info = ap₂ (λ text info. length (within engine.dir (text ++ info))) text info

like_kept : (context : Context) (one other : RwState) → other.text ≡ one.text → other.info ≡ one.info
    → Kept context one other
like_kept context one other text info none = (
  no_info context.engine one other info none,
  omega (arith, same_subject context.engine one other text info),
)

-- ---- path information

info_stays : (flags : Flags) (engine : Option Engine) (state : RwState) (text : List ℕ) → HasNoInfo engine state
    → HasNoInfo engine (with_text flags state text)
info_stays flags None state text none = tt
info_stays flags (Some engine) state text none = by flags.discard
  where
    by : (discard : Bool) → info_left discard state.info ≡ []
    by true = refl
    by false = none

info_goes : (flags : Flags) (engine : Option Engine) (state : RwState) (text : List ℕ)
    → (not (is_some engine) || flags.discard) ≡ true → HasNoInfo engine (with_text flags state text)
info_goes flags None state text discards = tt
info_goes flags (Some engine) state text discards = ap (λ discard. info_left discard state.info) discards

-- ---- which form a rule has

then_is : (test one other : Bool) → test ≡ true → (if test then one else other) ≡ true → one ≡ true
then_is true one other is whole = whole
then_is false one other is whole = absurd (true≢false (sym is))

else_is : (test one other : Bool) → test ≡ false → (if test then one else other) ≡ true → other ≡ true
else_is true one other is whole = absurd (true≢false is)
else_is false one other is whole = whole

-- A rule that neither stops the list nor answers has one of the other forms.
goes_on_by : (forbid gone pass end last : Bool) (other : Option ℕ) → (pass || (last || end)) ≡ false
    → (if forbid then Some FORBIDDEN else (if gone then Some GONE else other)) ≡ None
    → (forbid || gone || pass || end || last) ≡ false
goes_on_by true gone pass end last other on none = absurd (let e = none in cc)
goes_on_by false true pass end last other on none = absurd (let e = none in cc)
goes_on_by false false true end last other on none = absurd (true≢false on)
goes_on_by false false false end true other on none = absurd (true≢false on)
goes_on_by false false false true false other on none = absurd (true≢false on)
goes_on_by false false false false false other on none = refl

-- The form and the run tell alike whether there is an R.
redirects_too : (status : ℕ) → nat_lt 0 status ≡ true → not (status == 0) ≡ true
redirects_too zero is = absurd (true≢false (sym is))
redirects_too (suc status) is = ap not (eqb-suc-zero status)

-- What was found, where a pattern without negation holds.
found_held : (negated : Bool) (text : List ℕ) (match : Option Held) → not negated ≡ true
    → counted negated (is_found (matched_of text match)) ≡ true
    → (held : Held) × (match ≡ Some held) × (groups_of negated (matched_of text match) ≡ Some (matched_in text held))
found_held true text match plain is = absurd (true≢false (sym plain))
found_held false text None plain is = absurd (true≢false (sym is))
found_held false text (Some held) plain is = (held, refl, refl)

-- ---- a rule

module _ (context : Context) (looks : Looks) (rule : Rule) (followed : Bool) (before : Rewritten) where
  abbrev found : Option Matched
  found = found_in context rule before.state

  -- This many bytes less than what the pattern was looked for in, and not too long.
  abbrev IsLess : ℕ → Rewritten → Type 0
  IsLess less left = HasNoInfo context.engine left.state × (length_in context left.state ≤ LONGEST_TEXT)
      × (length_in context left.state + less ≤ length_in context before.state)

  abbrev BeginsBehind : Rewritten → Type 0
  BeginsBehind left = Begins context rule before.state left.state

  abbrev WithinBehind : Rewritten → Type 0
  WithinBehind left = IsWithin context (length_in context before.state) left.state

  abbrev KeptBehind : Rewritten → Type 0
  KeptBehind left = Kept context before.state left.state

  abbrev OwnLeaves : Rewritten → Type 0
  OwnLeaves left = Leaves context rule before.state true (stops_run rule.flags) rule.flags.next left.state

  -- Behind the conditions and the variables of a rule that matched.
  module _ (holds : counted rule.negated (is_found found) ≡ true) (state : RwState)
      (like : IsLike (with_found rule found before.state) state) where
    abbrev own : Rewritten
    own = with_state before state

    -- By its form, where the path information is not there behind it.
    form_leaves : (less : ℕ) → not rule.negated ≡ true → (template : Option (List Piece))
        → shortens_by less (record rule { subst = template }) ≡ true
        → ((text : List ℕ) → HasNoInfo context.engine (with_text rule.flags state text))
        → Gives (IsLess less) (substituted context looks rule.flags followed own template)
    unfolding substituted
    form_leaves less plain None form none = absurd (true≢false (sym form))
    form_leaves less plain (Some template) form none =
        let subject = subject_in context.engine before.state in
        let it = found_held rule.negated subject (first_match subject rule.pat) plain holds in
        gives_then (λ text. length text + less ≤ length subject) (IsLess less)
        (expanded looks (filling_in context state) template) (text_made context rule.flags followed state)
        (form_short context looks less rule.pat subject it.0 state template it.1 (like.2 ∙ it.2) form)
        (λ text short.
        gives_as (IsPlaced context rule.flags (min LONGEST_TEXT (length text))) (IsLess less)
        (text_made context rule.flags followed state text)
        (made_short context rule.flags followed state text (none text))
        (λ left placed. (placed.info, omega (arith, placed.short), omega (arith, placed.short, short))))

    begins : begins_shorter (is_some context.engine) rule ≡ true
        → Gives BeginsBehind (substituted context looks rule.flags followed own rule.subst)
    begins form =
        let parts = and_parts (is_shorter rule && nat_le enough_rounds rule.flags.rounds) _ form in
        let shorter = and_parts (is_shorter rule) (nat_le enough_rounds rule.flags.rounds) parts.0 in
        let plain = and_parts (not rule.negated) (shortens_by 1 rule) shorter.0 in
        gives_as (IsLess 1) BeginsBehind (substituted context looks rule.flags followed own rule.subst)
        (form_leaves 1 plain.0 rule.subst plain.1 (λ text. info_goes rule.flags context.engine state text parts.1))
        (λ left is. record {
          bound = leb-true enough_rounds rule.flags.rounds shorter.1;
          info = is.0;
          longest = is.1;
          shorter = omega (arith, is.2);
        })

    -- With R the request is sent on, and without a substitution the text stays.
    stays : (template : Option (List Piece))
        → (has_redirect rule.flags || not (has_substitution (record rule { subst = template }))) ≡ true
        → Gives KeptBehind (substituted context looks rule.flags followed own template)
    unfolding substituted
    stays None is = like_kept context before.state state like.0 like.1
    stays (Some template) is =
        gives_then Any KeptBehind (expanded looks (filling_in context state) template)
        (text_made context rule.flags followed state) (gives_any (expanded looks (filling_in context state) template))
        (λ text any.
        gives_where (HasNoInfo context.engine before.state) WithinBehind
        (text_made context rule.flags followed state text)
        (λ none.
        gives_as (IsPlaced context rule.flags (min LONGEST_TEXT (length text))) WithinBehind
        (text_made context rule.flags followed state text)
        (made_short context rule.flags followed state text
        (info_stays rule.flags context.engine state text
        (no_info context.engine before.state state like.1 none)))
        (λ left placed. absurd (true≢false (sym (redirected (has_redirect rule.flags) refl is) ∙ placed.stays)))))
      where
        redirected : (is : Bool) → has_redirect rule.flags ≡ is → (is || false) ≡ true → redirects rule.flags ≡ true
        redirected true has is = redirects_too rule.flags.redirect has
        redirected false has is = absurd (true≢false (sym is))

    goes_on : (if has_redirect rule.flags || not (has_substitution rule) then true else is_not_longer rule) ≡ true
        → Gives KeptBehind (substituted context looks rule.flags followed own rule.subst)
    goes_on form = by (has_redirect rule.flags || not (has_substitution rule)) refl form
      where
        by : (is : Bool) → (has_redirect rule.flags || not (has_substitution rule)) ≡ is
            → (if is then true else is_not_longer rule) ≡ true
            → Gives KeptBehind (substituted context looks rule.flags followed own rule.subst)
        by true is form = stays rule.subst is
        by false is form =
            let plain = and_parts (not rule.negated) (shortens_by 0 rule) form in
            gives_where (HasNoInfo context.engine before.state) WithinBehind
            (substituted context looks rule.flags followed own rule.subst)
            (λ none.
            gives_as (IsLess 0) WithinBehind
            (substituted context looks rule.flags followed own rule.subst)
            (form_leaves 0 plain.0 rule.subst plain.1
            (λ text. info_stays rule.flags context.engine state text
            (no_info context.engine before.state state like.1 none)))
            (λ left is. (is.0, omega (arith, is.2))))

    answered : fits (is_some context.engine) rule ≡ true → (status : Option ℕ) → status_of rule.flags ≡ status
        → Gives OwnLeaves (unless_answered context looks rule followed own status)
    unfolding unless_answered
    answered form (Some status) is = tt
    answered form None is = by (stops_run rule.flags) refl rule.flags.next refl
      where
        off : stops_run rule.flags ≡ false → stops_list rule.flags ≡ false
        off on = goes_on_by rule.flags.forbid rule.flags.gone rule.flags.pass rule.flags.end rule.flags.last
            (redirect_status rule.flags.redirect) on is

        by : (stops : Bool) → stops_run rule.flags ≡ stops → (next : Bool) → rule.flags.next ≡ next
            → Gives (λ left. Leaves context rule before.state true stops next left.state)
            (substituted context looks rule.flags followed own rule.subst)
        by true on next is = gives_any (substituted context looks rule.flags followed own rule.subst)
        by false on true is =
            begins (then_is rule.flags.next _ _ is (else_is (stops_list rule.flags) true _ (off on) form))
        by false on false is =
            goes_on (else_is rule.flags.next _ _ is (else_is (stops_list rule.flags) true _ (off on) form))

  -- ---- the attempt

  module _ (form : fits (is_some context.engine) rule ≡ true) where
    tested_leaves : counted rule.negated (is_found found) ≡ true
        → Gives (AttemptLeaves context rule before.state)
        (pattern_held context looks rule followed (with_state before (with_found rule found before.state)))
    unfolding pattern_held if_tested matched not_matched applied
    tested_leaves holds =
        let one = with_found rule found before.state in
        gives_then (IsTestedLike one) (AttemptLeaves context rule before.state)
        (conds_tried context looks one rule.conds) (if_tested context looks rule followed (with_state before one))
        (conds_like context looks one rule.conds one (refl, refl, refl))
        (λ tested like.
        gives_if (AttemptLeaves context rule before.state) tested.holds
        (matched context looks rule followed (with_state before tested.state))
        (not_matched rule (with_state before tested.state))
        (λ yes.
        gives_then OwnLeaves (AttemptLeaves context rule before.state)
        (applied context looks rule followed (with_state before tested.state)) _
        (gives_then (IsLike one) OwnLeaves (variables_set context looks tested.state rule.flags.sets) _
        (variables_like context looks one rule.flags.sets tested.state like)
        (λ state like. answered holds state like form (status_of rule.flags) refl))
        (λ left is. is))
        (λ no. like_kept context before.state tested.state like.0 like.1))

    pub attempt_leaves : Gives (AttemptLeaves context rule before.state) (attempt context looks rule followed before)
    unfolding attempt pattern_tried not_matched
    attempt_leaves =
        gives_if (AttemptLeaves context rule before.state) (counted rule.negated (is_found found))
        (pattern_held context looks rule followed (with_state before (with_found rule found before.state)))
        (not_matched rule before) tested_leaves
        (λ no. like_kept context before.state before.state refl refl)
