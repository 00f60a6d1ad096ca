-- The edits of a session's files.
use Rattle.std.specs.Prelude.{ℕ, Result}
use Rattle.hc_json.specs.declared.reply.Done.{Done}
use Rattle.hc_json.specs.declared.reply.Done.TheVariants as what
use Rattle.hc_model.specs.World.{World, put as put_in}
use Rattle.hc_world.specs.Edits.{dropped, lines_edited, listed}
use Rattle.hc_session.specs.declared.changes.Change.{Change}
use Rattle.hc_session.specs.declared.changes.Change.TheVariants.{Put, ListPath, DropPath, Edit}

-- The files that it gives, or the rule that it breaks.
abbrev pub changed_by : World → Change → Result World ℕ
changed_by world (Put path text) = put_in world path.now text.now
changed_by world (ListPath path kind) = listed world path.now kind
changed_by world (DropPath path) = dropped world path.now
changed_by world (Edit path from to text) = lines_edited world path.now from to text.now

-- What it is called in a reply.
abbrev pub done_of : Change → Done
done_of (Put path text) = what.Put
done_of (ListPath path kind) = what.ListPath
done_of (DropPath path) = what.DropPath
done_of (Edit path from to text) = what.Edit
