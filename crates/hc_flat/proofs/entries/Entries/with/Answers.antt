use Rattle.std.proofs.Common.{◌∷◌, ◌++◌, [], ap, ◌∙◌}
use Rattle.std.proofs.lemmas.Str.{IsUtf8-string_bytes}
use Rattle.hc_flat.specs.EntriesView.{entry_of}
use Rattle.hc_flat.proofs.Rows.{fit_one_more, seen_one_more}
use Rattle.hc_flat.proofs.entries.Entries.with.Goals as goal

pub invariant_of-result : goal.invariant_of-result
invariant_of-result c =
    rw (c.files.view_is, c.in_ok-with_row.ensures, c.in_ok-with_text-2.ensures.more, c.in_ok-with_text.ensures.more)
    (fit_one_more _ _ _ _ _ (entry_of c.args.entry) c.self.invariant c.in_ok-files.ensures
    (rw (c.as_slice.ensures, c.deref.ensures) at c.in_ok-row.ensures) (IsUtf8-string_bytes c.self.inside.texts)
    c.with_text.ensures.utf8 c.with_text-2.ensures.utf8)

pub returns : goal.returns
returns c =
    rw (c.files.view_is, c.in_ok-with_row.ensures, c.in_ok-with_text-2.ensures.more, c.in_ok-with_text.ensures.more)
    (seen_one_more _ _ _ _ _ (entry_of c.args.entry) c.self.invariant c.in_ok-files.ensures
    (rw (c.as_slice.ensures, c.deref.ensures) at c.in_ok-row.ensures))
    ∙ ap (λ entries. entries ++ entry_of c.args.entry ∷ []) c.self.view_is
