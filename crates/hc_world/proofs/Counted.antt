-- What an edit of the code's maps is of a whole world.
use Rattle.hc_world.proofs.Common.{◌≡◌, ℕ, ◌+◌, ◌≤◌, Result, Ok, Err, refl, sym, ap, ◌∙◌, inl}
use Rattle.hc_world.proofs.Common.{inr, arith, subst, ⊎_elim, World, EditsFiles, Edited, empty, get-empty, nat_cmp}
use Rattle.hc_world.proofs.Common.{slice_cmp, new_world}
use Rattle.std.specs.Option.{unwrap_or}
use Rattle.hc_base.specs.declared.fault.Fault.{Fault}
use Rattle.hc_base.specs.declared.fault.Fault.TheVariants.{NoMemory, Refused}
use Rattle.hc_model.specs.declared.read.Read.{Read}
use Rattle.hc_model.specs.declared.read.Read.TheVariants.{KindOf, NamesOf, TextOf}
use Rattle.hc_world.specs.Changes.{ChangeMap, last_change, never}
use Rattle.hc_world.specs.Edits.{Edits, IsAccepted, changed_at}
use Rattle.hc_world.specs.Marks.{Marks}
use Rattle.hc_world.specs.Rows.{IsNoLater, SameRows, seen_rows}
use Rattle.hc_world.proofs.Rows.{SameRows-seen, last_change-same, seen_rows-empty, seen_rows-same}

-- The world that files, a count and rows stand for.
abbrev pub stands_for : World → ℕ → ChangeMap → Edited
stands_for files edits rows = record { files = files; edits = edits; changes = seen_rows rows }

pub last_change-seen : (rows : ChangeMap) (read : Read) → last_change (seen_rows rows) read ≡ last_change rows read
last_change-seen rows = last_change-same rows (seen_rows rows) (SameRows-seen rows)

IsAccepted-from_Marks : (edits : ℕ) (old new : World) (rows after : ChangeMap)
    → Marks (edits + 1) old new rows after
    → IsAccepted (stands_for old edits rows) (stands_for new (edits + 1) after)
IsAccepted-from_Marks edits old new rows after marks = record {
  counted = refl;
  marked = λ read. ⊎_elim
      (λ same. inl (same.0, last_change-seen after read ∙ same.1 ∙ sym (last_change-seen rows read)))
      (λ other. inr (other.0, last_change-seen after read ∙ other.1))
      (marks read);
}

Edits-refused : (fault : Fault ℕ) (edits : ℕ) (old new : World) (rows after : ChangeMap) (edit : Result World ℕ)
    → EditsFiles (Err fault) old new edit → SameRows rows after
    → Edits (Err fault) (stands_for old edits rows) (stands_for new edits after) edit
Edits-refused (Refused code) edits old new rows after edit e same =
    (e.0, λ i. record { files = e.1 i; edits = edits; changes = seen_rows-same rows after same i })
Edits-refused NoMemory edits old new rows after edit e same =
    λ i. record { files = e i; edits = edits; changes = seen_rows-same rows after same i }

pub IsNoLater-same : (edits : ℕ) (rows after : ChangeMap) → IsNoLater edits rows → SameRows rows after
    → IsNoLater edits after
IsNoLater-same edits rows after none same read = let before = none read in
    let e = last_change-same rows after same read in omega arith

-- An edit that is made, and one that is refused, of a world that is seen as a whole.
pub counted : (edit : World → Result World ℕ) (self : Edited) (edits : ℕ) (old new : World)
    (rows after : ChangeMap) → stands_for old edits rows ≡ self → edit old ≡ Ok new
    → Marks (edits + 1) old new rows after → (edit self.files ≡ Ok new)
    × IsAccepted self (stands_for new (edits + 1) after)
counted edit self edits old new rows after is made marks =
    subst (λ (s : Edited). (edit s.files ≡ Ok new) × IsAccepted s (stands_for new (edits + 1) after)) is
    (made, IsAccepted-from_Marks edits old new rows after marks)

pub refused : (edit : World → Result World ℕ) (self : Edited) (fault : Fault ℕ) (edits : ℕ) (old new : World)
    (rows after : ChangeMap) → stands_for old edits rows ≡ self → EditsFiles (Err fault) old new (edit old)
    → SameRows rows after → Edits (Err fault) self (stands_for new edits after) (edit self.files)
refused edit self fault edits old new rows after is e same =
    subst (λ (s : Edited). Edits (Err fault) s (stands_for new edits after) (edit s.files)) is
    (Edits-refused fault edits old new rows after (edit old) e same)

pub no_later : (self : Edited) (edits : ℕ) (files : World) (rows : ChangeMap) → stands_for files edits rows ≡ self
    → IsNoLater edits rows → (read : Read) → changed_at self read ≤ edits
no_later self edits files rows is none read =
    subst (λ (s : Edited). changed_at s read ≤ edits) is
    (subst (λ n. n ≤ edits) (sym (last_change-seen rows read)) (none read))

-- Where nothing was edited.
IsNoLater-empty : IsNoLater 0 empty
IsNoLater-empty read = subst (λ n. n ≤ 0) (sym (none read)) (omega arith)
  where
    none : (read : Read) → last_change empty read ≡ 0
    none (KindOf path) = ap (λ o. (unwrap_or o never).kind) (get-empty (slice_cmp nat_cmp) path)
    none (TextOf path) = ap (λ o. (unwrap_or o never).text) (get-empty (slice_cmp nat_cmp) path)
    none (NamesOf path) = ap (λ o. (unwrap_or o never).names) (get-empty (slice_cmp nat_cmp) path)

pub new_is : (files : World) (rows : ChangeMap) → files ≡ new_world → rows ≡ empty
    → stands_for files 0 rows ≡ record { files = new_world; edits = 0; changes = empty }
new_is files rows e f = λ i. record { files = e i; edits = 0; changes = (ap seen_rows f ∙ seen_rows-empty) i }

pub new_no_later : (rows : ChangeMap) → rows ≡ empty → IsNoLater 0 rows
new_no_later rows e = subst (IsNoLater 0) (sym e) IsNoLater-empty
