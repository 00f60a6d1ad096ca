-- The replies to a script's lines: their JSON values and their bytes. Our own choice.
use Rattle.std.specs.Prelude.{ℕ, List, [], ◌∷◌, ◌++◌, true, codes}
use Rattle.serde_json.specs.Data.{Data, boolean, number, unsigned, string, object, no_members, member}
use Rattle.serde_json.specs.Written.{compact_text}
use Rattle.hc_base.specs.Bytes.{lf}
use Rattle.hc_base.specs.Codes.{name_of_code}
use Rattle.hc_base.specs.declared.place.Refusal.{Refusal}
use Rattle.hc_model.specs.declared.event.Decision.{Decision}
use Rattle.hc_model.specs.declared.outcome.Outcome.{Outcome}
use Rattle.hc_model.specs.declared.outcome.Outcome.TheVariants.{File, Directory, NotFound, Redirect, Status, Limit}
use Rattle.hc_model.specs.declared.outcome.Outcome.TheVariants.{HtRefused, Outside}
use Rattle.hc_model.specs.declared.outcome.LimitKind.{LimitKind}
use Rattle.hc_model.specs.declared.outcome.LimitKind.TheVariants.{Rounds, Redirects}
use Rattle.hc_model.specs.declared.outcome.Reason.{Reason}
use Rattle.hc_model.specs.declared.outcome.Reason.TheVariants.{PathByte, LongText, DotSegment, RelativeRedirect}
use Rattle.hc_model.specs.declared.outcome.Reason.TheVariants.{RelativeUnderAlias, Scheme, NoRoot}
use Rattle.hc_model.specs.declared.request.Request.{Request}
use Rattle.hc_json.specs.Shown.{shown}
use Rattle.hc_json.specs.declared.reply.Done.{Done}
use Rattle.hc_json.specs.declared.reply.Done.TheVariants.{Put, ListPath, DropPath, Edit, Main, End}
use Rattle.hc_json.specs.declared.followed.Stop.{Stop}
use Rattle.hc_json.specs.declared.followed.Stop.TheVariants as stop
use Rattle.hc_json.specs.declared.rejected.Condition.{Condition}
use Rattle.hc_json.specs.declared.rejected.Condition.TheVariants.{Start, Arrivals, Ends, Ranks, Size}
use Rattle.hc_json.specs.Claimed.{branch_data, request_data}
use Rattle.hc_json.specs.Trail.{Trailed, reads_data, text_data, trail_data}

pub data Reply : Type 0 where
  -- a command that asks nothing was done
  done : Done → Reply
  -- a configuration, with how many virtual hosts it has
  configured : ℕ → Reply
  outcome : Outcome → Reply
  -- an outcome, and how it came
  trailed : Trailed → Reply
  -- what the last request of a chain receives, after so many redirects, and why none follows
  followed : Outcome → ℕ → Stop → Reply
  -- a claim holds of each request of its scope
  proved : Reply
  -- this request breaks it, and receives this
  refuted : Outcome → Request → Reply
  -- what the first branch decided that may break it
  undecided : List Decision → Reply
  -- there are so many branches at least
  too_many : ℕ → Reply
  -- the cells show that a claim holds of each request of its scope
  accepted : Reply
  -- they don't: what a branch decided, the number of a cell, the condition that isn't met there, and a text that
  -- shows it
  rejected : List Decision → ℕ → Condition → List ℕ → Reply
  -- how many asks were answered with an outcome, and how many of them were evaluated
  stats : ℕ → ℕ → Reply
  refused : Refusal → Reply
  no_memory : Reply

-- An object with one member.
abbrev pub only : List ℕ → Data → Data
only key d = object (member key d no_members)

abbrev pub refusal_data : Refusal → Data
refusal_data r =
    object (
    member (codes "at") (number (unsigned r.at)) (
    member (codes "code") (number (unsigned r.code)) (
    member (codes "field") (string (shown r.field)) (
    member (codes "file") (string (shown r.place.file)) (
    member (codes "line") (number (unsigned r.place.line)) (
    member (codes "name") (string (name_of_code r.code)) no_members))))))

abbrev pub limit_name : LimitKind → List ℕ
limit_name Rounds = codes "rounds"
limit_name Redirects = codes "redirects"

abbrev pub reason_name : Reason → List ℕ
reason_name PathByte = codes "path byte"
reason_name LongText = codes "long text"
reason_name DotSegment = codes "dot segment"
reason_name RelativeRedirect = codes "relative redirect"
reason_name RelativeUnderAlias = codes "relative under alias"
reason_name Scheme = codes "scheme"
reason_name NoRoot = codes "no root"

abbrev pub outcome_data : Outcome → Data
outcome_data (File path info) =
    only (codes "file") (object (
    member (codes "info") (string (shown info)) (
    member (codes "path") (string (shown path)) no_members)))
outcome_data (Directory path) = only (codes "directory") (string (shown path))
outcome_data NotFound = only (codes "not_found") (boolean true)
outcome_data (Redirect status location) =
    only (codes "redirect") (object (
    member (codes "location") (string (shown location)) (
    member (codes "status") (number (unsigned status)) no_members)))
outcome_data (Status status) = only (codes "status") (number (unsigned status))
outcome_data (Limit kind) = only (codes "limit") (string (limit_name kind))
outcome_data (HtRefused refusal) = only (codes "ht_refused") (refusal_data refusal)
outcome_data (Outside reason) = only (codes "outside") (string (reason_name reason))

abbrev pub trailed_data : Trailed → Data
trailed_data answer =
    object (
    member (codes "events") (number (unsigned answer.events)) (
    member (codes "outcome") (outcome_data answer.outcome) (
    member (codes "reads") (reads_data answer.reads) (
    member (codes "trail") (trail_data answer.trail) no_members))))

abbrev pub done_name : Done → List ℕ
done_name Put = codes "put"
done_name ListPath = codes "list"
done_name DropPath = codes "drop"
done_name Edit = codes "edit"
done_name Main = codes "main"
done_name End = codes "end"

abbrev pub stats_data : ℕ → ℕ → Data
stats_data asks evaluations =
    object (
    member (codes "asks") (number (unsigned asks)) (
    member (codes "evaluations") (number (unsigned evaluations)) no_members))

abbrev pub stop_name : Stop → List ℕ
stop_name stop.Ended = codes "ended"
stop_name stop.Away = codes "away"
stop_name stop.BadTarget = codes "bad target"
stop_name stop.TooMany = codes "too many"

abbrev pub followed_data : Outcome → ℕ → Stop → Data
followed_data o steps stop =
    object (
    member (codes "outcome") (outcome_data o) (
    member (codes "steps") (number (unsigned steps)) (
    member (codes "stop") (string (stop_name stop)) no_members)))

abbrev pub refuted_data : Outcome → Request → Data
refuted_data o request =
    object (
    member (codes "outcome") (outcome_data o) (
    member (codes "request") (request_data request) no_members))

abbrev pub condition_name : Condition → List ℕ
condition_name Start = codes "K1"
condition_name Arrivals = codes "K2"
condition_name Ends = codes "K3"
condition_name Ranks = codes "K4"
condition_name Size = codes "K5"

abbrev pub rejected_data : List Decision → ℕ → Condition → List ℕ → Data
rejected_data branch cell condition witness =
    object (
    member (codes "branch") (branch_data branch) (
    member (codes "cell") (number (unsigned cell)) (
    member (codes "condition") (string (condition_name condition)) (
    member (codes "text") (text_data witness) no_members))))

abbrev pub reply_data : Reply → Data
reply_data (done what) = only (codes "done") (string (done_name what))
reply_data (configured hosts) = only (codes "config") (only (codes "hosts") (number (unsigned hosts)))
reply_data (outcome o) = only (codes "outcome") (outcome_data o)
reply_data (trailed answer) = trailed_data answer
reply_data (followed o steps stop) = only (codes "followed") (followed_data o steps stop)
reply_data proved = only (codes "proved") (boolean true)
reply_data (refuted o request) = only (codes "refuted") (refuted_data o request)
reply_data (undecided branch) = only (codes "undecided") (only (codes "branch") (branch_data branch))
reply_data (too_many branches) = only (codes "too_many") (number (unsigned branches))
reply_data accepted = only (codes "accepted") (boolean true)
reply_data (rejected branch cell condition witness) =
    only (codes "rejected") (rejected_data branch cell condition witness)
reply_data (stats asks evaluations) = only (codes "stats") (stats_data asks evaluations)
reply_data (refused r) = only (codes "refused") (refusal_data r)
reply_data no_memory = only (codes "no_memory") (boolean true)

-- A reply's line: compact JSON, and LF.
abbrev pub reply_line : Reply → List ℕ
reply_line reply = compact_text (reply_data reply) ++ lf ∷ []
