-- Each request of a scope begins in a state that is known.
use Rattle.std.proofs.Common.{◌≡◌, ℕ, List, [], Bool, true, false, refl, sym, true≢false}
use Rattle.std.specs.List.{list_all}
use Rattle.hc_dfa.specs.Texts.{TextSet}
use Rattle.hc_forms.specs.Forms.{is_value_byte}
use Rattle.hc_members.specs.Requests.{is_listed}
use Rattle.hc_model.specs.declared.config.Config.{Config}
use Rattle.hc_model.specs.declared.config.HostId.{HostId}
use Rattle.hc_model.specs.declared.request.Request.{Request}
use Rattle.hc_plan.specs.Cover.{Covers, GivenIs, IsMade, TiesHold}
use Rattle.hc_plan.specs.Running.{State}
use Rattle.hc_plan.specs.Slots.{Slot}
use Rattle.hc_plan.specs.States.{AbsState}
use Rattle.hc_plan.specs.Texts.{Key, any, first_key, pick, second_key, third_key}
use Rattle.hc_rw_expand.specs.Values.{request_line}
use Rattle.hc_scope.specs.declared.claim.Scope.{Scope}
use Rattle.hc_serve.specs.ServerRules.{context_at, state_at}
use Rattle.hc_serve.specs.Site.{site_at}
use Rattle.hc_target.specs.Targets.{read}
use Rattle.hc_target.specs.declared.target.TargetRead.TheVariants.{Path}
use Rattle.hc_template.specs.Variables.{header_value}
use Rattle.hc_abs_pass.specs.Ends.{MeetsPass}
use Rattle.hc_abs_pass.specs.Walks.{is_empty}
use Rattle.hc_abs_restart.specs.Restarted.{is_among}
use Rattle.hc_abs_rw.proofs.Started.{each_stands}
use Rattle.hc_abs_start.proofs.Members.{Facts, facts_of, in_set, line_text, method_text, path_in, query_in, value_text}
use Rattle.hc_abs_start.proofs.Members.{valued}
use Rattle.hc_abs_start.proofs.Printing.{printed_given}
use Rattle.hc_abs_start.specs.Starts.{EachBegins, first_of, first_state, first_ties, known_of, where_looked}

-- What isn't looked at may be anything.
in_looked : (is : Bool) (set : TextSet) (text : List ℕ) → set text ≡ true → where_looked is set text ≡ true
in_looked true set text held = held
in_looked false set text held = refl

module _ (config : Config) (host : HostId) (scope : Scope) (request : Request) (path query : List ℕ)
    (variables headers : List (List ℕ)) (facts : Facts scope request)
    (is : read request.target ≡ Path path query) where
  abbrev known : AbsState
  known = known_of scope variables headers

  abbrev begun : State
  begun = first_state (site_at config host request) (first_of path query)

  meets : MeetsPass (site_at config host request) (first_of path query) begun
  meets = record {
    text = refl;
    query = refl;
    info = refl;
    end = refl;
    path = refl;
    method = refl;
    request = refl;
    variables = λ name. refl;
    headers =
        (each_stands (context_at (site_at config host request) (first_of path query))
        (state_at (first_of path query))).headers;
    caller = refl;
  }

  slot_in : (slot : Slot) → known.cell slot (begun.slots slot) ≡ true
  slot_in Slot.Origin = path_in scope request facts path query is
  slot_in Slot.Path = path_in scope request facts path query is
  slot_in Slot.Text = path_in scope request facts path query is
  slot_in Slot.Query = query_in scope request facts path query is
  slot_in Slot.FirstQuery = query_in scope request facts path query is
  slot_in Slot.Method =
      in_set (is_listed scope.methods) request.method (method_text scope request facts) facts.listed
  slot_in Slot.Request = in_set any (request_line request) (line_text scope request facts) refl
  slot_in (Slot.Env name) = in_looked (is_among variables name) is_empty [] refl
  slot_in (Slot.Header name) =
      let value = header_value request.headers name in
      let held = valued [] request.headers name facts.headers in
      in_set (where_looked (is_among headers name) (list_all is_value_byte)) value (value_text value held)
      (in_looked (is_among headers name) (list_all is_value_byte) value held)
  slot_in other = refl

  ties_hold : TiesHold begun.slots first_ties
  ties_hold = record {
    origin_path = λ tied. refl;
    text_path = λ tied. refl;
    text_name = λ tied. absurd (true≢false (sym tied));
    query_first = λ tied. refl;
  }

  none_given : (key : Key) (at : ℕ) → GivenIs (pick known.given key at) (pick begun.given key at)
  none_given first_key at = refl
  none_given second_key at = refl
  none_given third_key at = refl

  none_made : (key : Key) → IsMade begun.slots (pick known.texts key) (pick begun.texts key)
  none_made first_key = ([], refl, refl, refl)
  none_made second_key = ([], refl, refl, refl)
  none_made third_key = ([], refl, refl, refl)

  covers : Covers known begun
  covers = record {
    slots = slot_in;
    ties = ties_hold;
    given = none_given;
    texts = none_made;
    clients = facts.client;
    printed = printed_given scope.client request.client facts.client;
  }

pub each_begins : EachBegins
each_begins config host scope request path query variables headers member is =
    let facts = facts_of scope request member in (
      meets config host scope request path query variables headers facts is,
      covers config host scope request path query variables headers facts is,
    )
