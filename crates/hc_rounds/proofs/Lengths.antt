-- How long texts are behind what a rule does with them.
use Rattle.std.proofs.Common.{◌≡◌, ◌∙◌, ◌+◌, ◌≤◌, ℕ, max, List, [], ◌∷◌, ◌++◌, length, drop, Bool, true, false}
use Rattle.std.proofs.Common.{◌&&◌, not, Option, Some, None, Ok, Err, is_some, if◌then◌else◌, unwrap_or, nat_eq}
use Rattle.std.proofs.Common.{refl, sym, ap, subst, true≢false, append-nil, length-append, length-drop, drop_at}
use Rattle.std.proofs.Common.{take_at, arith}
use Rattle.std.specs.List.{before_first, starts_with}
use Rattle.std.specs.Str.{bytes_eq}
use Rattle.std.proofs.lemmas.Option.{same_Some}
use Rattle.std.proofs.lemmas.Slice.Eq.{bytes_eq-Decides}
use Rattle.hc_base.specs.Paths.{begins_with_slash, is_slash}
use Rattle.hc_model.specs.declared.outcome.Reason.TheVariants.{RelativeUnderAlias}
use Rattle.hc_model.specs.declared.request.Caller.{Caller}
use Rattle.hc_rounds.specs.Shortening.{HasNoInfo}
use Rattle.hc_rw_eval.specs.Directories.{behind_front, subject_in, with_slash, within}
use Rattle.hc_rw_eval.specs.Locations.{is_own, or_slash, own_front, own_path, path_behind}
use Rattle.hc_rw_eval.specs.Substitutions.{front_before, front_of, with_front}
use Rattle.hc_rw_expand.specs.Contexts.{Engine}
use Rattle.hc_rw_expand.specs.declared.state.RwState.{RwState}
use Rattle.hc_target.specs.Urls.{begins_without_case, is_url}

-- ---- a front

front_off : (front text : List ℕ) → length (unwrap_or (behind_front front text) text) ≤ length text
front_off front text = by (starts_with nat_eq text front)
  where
    by : (begins : Bool)
        → length (unwrap_or (if begins then Some (drop (length front) text) else None) text) ≤ length text
    by true = omega (arith, length-drop (length front) text)
    by false = omega arith

-- What is put before a text is taken off again.
front_back : (front text : List ℕ) → unwrap_or (behind_front front (front ++ text)) (front ++ text) ≡ text
front_back front text =
    by (starts_with nat_eq (front ++ text) front)
    (ap (bytes_eq front) (take_at front text (length front) refl) ∙ (bytes_eq-Decides front front).1 refl)
  where
    by : (begins : Bool) → begins ≡ true
        → unwrap_or (if begins then Some (drop (length front) (front ++ text)) else None) (front ++ text) ≡ text
    by true is = drop_at front text (length front) refl
    by false is = absurd (true≢false (sym is))

-- ---- the text that patterns are looked for in

pub no_info : (engine : Option Engine) (one other : RwState) → other.info ≡ one.info → HasNoInfo engine one
    → HasNoInfo engine other
no_info None one other same none = tt
no_info (Some engine) one other same none = same ∙ none

pub subject_short : (engine : Option Engine) (state : RwState) → HasNoInfo engine state
    → length (subject_in engine state) ≤ length state.text
subject_short None state none = omega arith
subject_short (Some engine) state none =
    let nothing : length state.info ≡ 0 = ap length none in
    omega (
      arith,
      front_off (with_slash engine.dir) (state.text ++ state.info),
      length-append state.text state.info,
      nothing,
    )

-- A text that is put behind a front without R.
module _ (state : RwState) where
  abbrev Stays : Option Engine → List ℕ → Type 0
  Stays engine front = length (subject_in engine (with_front front state)) ≤ length state.text

  relative_short : (engine : Option Engine) (front : List ℕ) → HasNoInfo engine state
      → front_of engine false ≡ Ok front → Stays engine front
  relative_short None front none is = let nothing : [] ≡ front = (let e = is in cc) in
      subst (Stays None) nothing (omega arith)
  relative_short (Some engine) front none is = by (engine.aliased && not (is_some engine.base)) is
    where
      whole : within engine.dir ((with_slash engine.dir ++ state.text) ++ state.info) ≡ state.text
      whole =
          ap (λ info. within engine.dir ((with_slash engine.dir ++ state.text) ++ info)) none
          ∙ ap (within engine.dir) (append-nil (with_slash engine.dir ++ state.text))
          ∙ front_back (with_slash engine.dir) state.text

      by : (outside : Bool) → (if outside then Err RelativeUnderAlias else Ok (with_slash engine.dir)) ≡ Ok front
          → Stays (Some engine) front
      by true is = absurd (let e = is in cc)
      by false is = let same : with_slash engine.dir ≡ front = (let e = is in cc) in
          subst (Stays (Some engine)) same (omega (arith, ap length whole))

  pub placed_short : (engine : Option Engine) (front : List ℕ) → HasNoInfo engine state
      → front_before engine false state.text ≡ Ok front → Stays engine front
  placed_short engine front none is = by (begins_with_slash state.text) is
    where
      by : (absolute : Bool) → (if absolute then Ok [] else front_of engine false) ≡ Ok front → Stays engine front
      by true is = let nothing : [] ≡ front = (let e = is in cc) in
          subst (Stays engine) nothing
          (subject_short engine (with_front [] state) (no_info engine state (with_front [] state) refl none))
      by false is = relative_short engine front none is

-- ---- URLs of the server's own

if_some : {A : Type 0} (is : Bool) (made : Option A) (value : A) → (if is then made else None) ≡ Some value
    → made ≡ Some value
if_some true made value is = is
if_some false made value is = absurd (let e = is in cc)

or_slash_short : (text : List ℕ) → length (or_slash text) ≤ max 1 (length text)
or_slash_short [] = omega arith
or_slash_short (b ∷ bs) = omega arith

authority_off : (caller : Caller) (rest path : List ℕ) → path_behind caller rest ≡ Some path
    → length path ≤ max 1 (length rest)
authority_off caller rest path is =
    let own = drop (length (before_first is_slash rest)) rest in
    let same = same_Some (or_slash own) path
    (if_some (is_own caller (before_first is_slash rest)) (Some (or_slash own)) path is) in
    subst (λ path. length path ≤ max 1 (length rest)) same
    (omega (arith, or_slash_short own, length-drop (length (before_first is_slash rest)) rest))

-- `/` alone is no longer than any URL.
pub own_short : (caller : Caller) (text path : List ℕ) → own_path caller text ≡ Some path → is_url text ≡ true
    → length path ≤ length text
own_short caller [] path is url = absurd (true≢false (sym url))
own_short caller (b ∷ bs) path is url =
    let front = own_front caller.request.scheme in
    let rest = drop (length front) (b ∷ bs) in
    let behind = authority_off caller rest path
    (if_some (begins_without_case front (b ∷ bs)) (path_behind caller rest) path is) in
    let all : length (b ∷ bs) ≡ length bs + 1 = omega arith in
    omega (arith, behind, length-drop (length front) (b ∷ bs), all)
