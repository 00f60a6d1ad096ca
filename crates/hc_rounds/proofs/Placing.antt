-- What a substitution leaves: a text that is not longer than what its template gives, and not too long.
use Rattle.std.proofs.Common.{◌≡◌, ◌∙◌, ℕ, ◌≤◌, min, List, length, Bool, true, false, ◌&&◌, ◌||◌, not, Option, Some}
use Rattle.std.proofs.Common.{None, Ok, Err, refl, sym, ap, length-take, ltb-false, arith}
use Rattle.std.specs.List.{position_or_len}
use Rattle.std.specs.Prelude.{Result}
use Rattle.std.proofs.lemmas.Bool.{or_parts}
use Rattle.hc_base.specs.Bytes.{is_question}
use Rattle.hc_model.specs.declared.outcome.Reason.{Reason}
use Rattle.hc_model.specs.declared.rewrite.Flags.{Flags}
use Rattle.hc_rounds.proofs.Lengths.{no_info, own_short, placed_short, subject_short}
use Rattle.hc_rounds.proofs.Steps.{Gives, gives_if}
use Rattle.hc_rounds.specs.Shortening.{HasNoInfo, length_in}
use Rattle.hc_rw_eval.specs.Locations.{has_scheme, own_path}
unfoldable use Rattle.hc_rw_eval.specs.Substitutions.{front_placed, path_placed, sent, text_made, text_placed}
unfoldable use Rattle.hc_rw_eval.specs.Substitutions.{told_text, unless_long, url_placed}
use Rattle.hc_rw_eval.specs.Substitutions.{front_before, is_long, own_unless, redirects, stops, with_front, with_text}
use Rattle.hc_rw_eval.specs.declared.attempt.Rewritten.{Rewritten}
use Rattle.hc_rw_eval.specs.declared.substitution.TheConstants.{LONGEST_TEXT}
use Rattle.hc_rw_expand.specs.Contexts.{Context}
use Rattle.hc_rw_expand.specs.declared.state.RwState.{RwState}
use Rattle.hc_target.specs.Urls.{is_url}

own_is : (redirected : Bool) (own : Option (List ℕ)) (path : List ℕ) → own_unless redirected own ≡ Some path
    → (redirected ≡ false) × (own ≡ Some path)
own_is true own path is = absurd (let e = is in cc)
own_is false own path is = (refl, is)

-- The rule has no R, and what it leaves has no path information and at most so many bytes.
pub record IsPlaced (context : Context) (flags : Flags) (most : ℕ) (left : Rewritten) : Type 0 where
  pub stays : redirects flags ≡ false
  pub info : HasNoInfo context.engine left.state
  pub short : length_in context left.state ≤ most

module _ (context : Context) (flags : Flags) (followed : Bool) where
  module _ (most : ℕ) where
    sent_nowhere : (location : List ℕ) → Gives (IsPlaced context flags most) (sent flags followed location)
    unfolding sent
    sent_nowhere location =
        gives_if (IsPlaced context flags most) (followed && not (stops flags)) _ _ (λ outside. tt) (λ redirect. tt)

    module _ (state : RwState) (none : HasNoInfo context.engine state) (short : length state.text ≤ most) where
      path_short : (front : List ℕ) → front_before context.engine (redirects flags) state.text ≡ Ok front
          → Gives (IsPlaced context flags most) (path_placed context flags followed (with_front front state))
      unfolding path_placed told_text
      path_short front is =
          gives_if (IsPlaced context flags most) (redirects flags) _ _ (λ redirected. sent_nowhere _)
          (λ stays.
          let before = ap (λ redirected. front_before context.engine redirected state.text) (sym stays) ∙ is in
          record {
            stays = stays;
            info = no_info context.engine state (with_front front state) refl none;
            short = omega (arith, short, placed_short state context.engine front none before);
          })

      front_short : (front : Result (List ℕ) Reason)
          → front_before context.engine (redirects flags) state.text ≡ front
          → Gives (IsPlaced context flags most) (front_placed context flags followed state front)
      unfolding front_placed
      front_short (Err reason) is = tt
      front_short (Ok front) is = path_short front is

      url_short : is_url state.text ≡ true → (own : Option (List ℕ))
          → own_unless (redirects flags) (own_path context.caller state.text) ≡ own
          → Gives (IsPlaced context flags most) (url_placed context flags followed state own)
      unfolding url_placed told_text
      url_short url None is = sent_nowhere _
      url_short url (Some path) is =
          let own = own_is (redirects flags) (own_path context.caller state.text) path is in
          let made : RwState = record state { text = path } in
          let info = no_info context.engine state made refl none in
          record {
            stays = own.0;
            info = info;
            short = omega (
              arith,
              short,
              subject_short context.engine made info,
              own_short context.caller state.text path own.1 url,
            );
          }

      text_short : Gives (IsPlaced context flags most) (text_placed context flags followed state)
      unfolding text_placed
      text_short =
          gives_if (IsPlaced context flags most) (is_url state.text) _ _ (λ url. url_short url _ refl)
          (λ other.
          gives_if (IsPlaced context flags most) (has_scheme state.text) _ _ (λ scheme. tt)
          (λ path. front_short _ refl))

  pub made_short : (state : RwState) (text : List ℕ) → HasNoInfo context.engine (with_text flags state text)
      → Gives (IsPlaced context flags (min LONGEST_TEXT (length text))) (text_made context flags followed state text)
  unfolding text_made unless_long
  made_short state text none =
      let made = with_text flags state text in
      gives_if (IsPlaced context flags (min LONGEST_TEXT (length text))) (is_long made.text || is_long made.query) _ _
      (λ long. tt)
      (λ isnt.
      let within = ltb-false LONGEST_TEXT (length made.text) (or_parts _ _ isnt).0 in
      let cut = length-take (position_or_len is_question text) text in
      text_short (min LONGEST_TEXT (length text)) made none (omega (arith, within, cut)))
