-- What a reply of the code is seen as. Outcomes are printed without one.
use Rattle.hc_json.specs.Reply as spec
use Rattle.hc_json.specs.declared.reply.Reply.{Reply}
use Rattle.hc_json.specs.declared.reply.Reply.TheVariants.{Done, Config, Proved, TooMany, Accepted, Stats, Refused}

abbrev pub reply_view : Reply → spec.Reply
reply_view (Done what) = spec.done what
reply_view (Config hosts) = spec.configured hosts
reply_view Proved = spec.proved
reply_view (TooMany branches) = spec.too_many branches
reply_view Accepted = spec.accepted
reply_view (Stats asks evaluations) = spec.stats asks evaluations
reply_view (Refused r) = spec.refused r
