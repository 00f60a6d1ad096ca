-- One row more.
use Rattle.std.proofs.Common.{◌≡◌, ℕ, zero, suc, ◌+◌, ◌-◌, ◌<◌, ◌≤◌, List, [], ◌∷◌}
use Rattle.std.proofs.Common.{◌++◌, length, take, drop, get_or, slice_range, true, refl, ap, ◌∙◌, sym, subst}
use Rattle.std.proofs.Common.{arith}
use Rattle.std.specs.Str.{IsCharBoundary, IsUtf8, bytes_eq}
use Rattle.std.proofs.lemmas.Str.{IsCharBoundary-from_take, IsUtf8-append}
use Rattle.std.proofs.Math.Seq.{drop-append_seam, take-append_seam}
use Rattle.std.proofs.lemmas.Slice.Eq.{bytes_eq-Decides}
use Rattle.std.proofs.lemmas.List.{append_assoc, append-nil, drop-append-le, get_or_append_left, get_or_push}
use Rattle.std.proofs.lemmas.List.{length-append, length-drop, take-append-le, take_all}
use Rattle.hc_model.specs.declared.entry.Entry.{Entry}
use Rattle.hc_flat.specs.EntriesView.{EndsWith, Fit, IsCut, IsFilled, file_at, is_last, row_behind}
use Rattle.hc_flat.specs.EntriesView.{row_seen, rows_seen}
use Rattle.hc_flat.specs.declared.entries.EntryRow.{EntryRow}

range_stays : {X : Type 0} (xs ys : List X) (a b : ℕ) → a ≤ b → b ≤ length xs → slice_range (xs ++ ys) a b
    ≡ slice_range xs a b
range_stays xs ys a b order within =
    rw (drop-append-le a xs ys (omega arith)) (take-append-le (b - a) (drop a xs) ys (omega (arith, length-drop a xs)))

-- Rows that are filled stay what they are when more files and texts come.
module _ (files more : List (List ℕ)) (texts t : List ℕ) where
  cut_stays : (at : ℕ) → IsCut texts at → IsCut (texts ++ t) at
  cut_stays at cut =
      record {
        within = omega (arith, cut.within, length-append texts t);
        front = subst IsUtf8 (sym (take-append-le at texts t cut.within)) cut.front;
      }

  row_stays : (row : EntryRow) → IsFilled files texts row → row_seen (files ++ more) (texts ++ t) row
      ≡ row_seen files texts row
  row_stays row is =
      rw (
        get_or_append_left files more [] row.file is.file,
        range_stays texts t row.name row.rest is.in_order.0 is.rest.within,
        range_stays texts t row.rest row.end is.in_order.1 is.end.within,
      ) refl

  filled_stays : (row : EntryRow) → IsFilled files texts row → IsFilled (files ++ more) (texts ++ t) row
  filled_stays row is = record {
    file = omega (arith, is.file, length-append files more);
    name = cut_stays row.name is.name;
    rest = cut_stays row.rest is.rest;
    end = cut_stays row.end is.end;
    in_order = is.in_order;
  }

  fit_with : (rows : List EntryRow) (row : EntryRow) → Fit files texts rows
      → IsFilled (files ++ more) (texts ++ t) row → Fit (files ++ more) (texts ++ t) (rows ++ row ∷ [])
  fit_with [] row fit is = (is, tt)
  fit_with (first ∷ rows) row fit is = (filled_stays first fit.0, fit_with rows row fit.1 is)

  seen_with : (rows : List EntryRow) (row : EntryRow) → Fit files texts rows
      → rows_seen (files ++ more) (texts ++ t) (rows ++ row ∷ []) ≡ rows_seen files texts rows ++ row_seen
      (files ++ more) (texts ++ t) row ∷ []
  seen_with [] row fit = refl
  seen_with (first ∷ rows) row fit =
      rw (row_stays first fit.0) (ap (λ entries. row_seen files texts first ∷ entries) (seen_with rows row fit.1))

pub boundary : (texts : List ℕ) (at : ℕ) → IsUtf8 texts → IsCut texts at → IsCharBoundary texts at
boundary texts at valid cut = IsCharBoundary-from_take texts at valid cut.within cut.front

-- ---- one row

module _ (files : List (List ℕ)) (texts : List ℕ) where
  pub filled_at : (rows : List EntryRow) (at : ℕ) (d : EntryRow) → at < length rows → Fit files texts rows
      → IsFilled files texts (get_or rows at d)
  filled_at [] at d within fit = absurd (omega (arith, within))
  filled_at (row ∷ rows) zero d within fit = fit.0
  filled_at (row ∷ rows) (suc at) d within fit = filled_at rows at d (omega arith) fit.1

  pub seen_at : (rows : List EntryRow) (at : ℕ) (d : EntryRow) → at < length (rows_seen files texts rows)
      → drop at (rows_seen files texts rows) ≡ row_seen files texts (get_or rows at d) ∷ drop (at + 1)
      (rows_seen files texts rows)
  seen_at [] at d within = absurd (omega (arith, within))
  seen_at (row ∷ rows) zero d within = refl
  seen_at (row ∷ rows) (suc at) d within =
      let next : suc (at + 1) ≡ suc at + 1 = omega arith in
      seen_at rows at d (omega arith)
      ∙ ap (λ n. row_seen files texts (get_or rows at d) ∷ drop n (rows_seen files texts (row ∷ rows)))
      next

-- ---- one row more

own_range : {X : Type 0} (all xs ys zs : List X) (a b : ℕ) → all ≡ xs ++ (ys ++ zs) → a ≡ length xs
    → b ≡ a + length ys → slice_range all a b ≡ ys
own_range all xs ys zs a b cut from to =
    ap (λ n. take n (drop a all)) (omega (arith, to)) ∙ ap (λ n. take (length ys) (drop n all)) from
    ∙ ap (λ all. take (length ys) (drop (length xs) all)) cut
    ∙ ap (take (length ys)) (drop-append_seam xs (ys ++ zs)) ∙ take-append_seam ys zs

-- The row of an entry of the last file, behind all texts.
module _ (files : List (List ℕ)) (texts : List ℕ) (entry : Entry) where
  own_row : file_at files (length files - 1) ≡ entry.spot.place.file
      → row_seen files (texts ++ (entry.name ++ entry.rest)) (row_behind (length files) (length texts) entry)
      ≡ entry
  own_row last = rw (
    last,
    own_range (texts ++ (entry.name ++ entry.rest)) texts entry.name entry.rest (length texts)
        (length texts + length entry.name) refl refl refl,
    own_range (texts ++ (entry.name ++ entry.rest)) (texts ++ entry.name) entry.rest []
        (length texts + length entry.name) (length texts + length entry.name + length entry.rest)
        (sym (append_assoc texts entry.name entry.rest)
        ∙ ap (λ r. texts ++ entry.name ++ r) (sym (append-nil entry.rest))) (sym (length-append texts entry.name))
        refl,
  ) refl

  own_filled : 0 < length files → IsUtf8 texts → IsUtf8 entry.name → IsUtf8 entry.rest
      → IsFilled files (texts ++ (entry.name ++ entry.rest)) (row_behind (length files) (length texts) entry)
  own_filled some valid name rest = record {
    file = omega (arith, some);
    name = record {
      within = omega (arith, all);
      front = subst IsUtf8 (sym (take-append_seam texts (entry.name ++ entry.rest))) valid;
    };
    rest = record {
      within = omega (arith, all);
      front = subst IsUtf8
          (sym (ap (λ n. take n (texts ++ (entry.name ++ entry.rest))) (sym (length-append texts entry.name))
          ∙ ap (take (length (texts ++ entry.name))) (sym (append_assoc texts entry.name entry.rest))
          ∙ take-append_seam (texts ++ entry.name) entry.rest)) (IsUtf8-append texts entry.name valid name);
    };
    end = record {
      within = omega (arith, all);
      front = subst IsUtf8
          (sym (take_all (length texts + length entry.name + length entry.rest) (texts ++ (entry.name ++ entry.rest))
          (omega (arith, all))))
          (IsUtf8-append texts (entry.name ++ entry.rest) valid (IsUtf8-append entry.name entry.rest name rest));
    };
    in_order = (omega arith, omega arith);
  }
    where
      all : length (texts ++ (entry.name ++ entry.rest)) ≡ length texts + length entry.name + length entry.rest
      all = length-append texts (entry.name ++ entry.rest) ∙ omega (arith, length-append entry.name entry.rest)

module _ (files later : List (List ℕ)) (rows : List EntryRow) (row : EntryRow) (texts : List ℕ) (entry : Entry)
    (fit : Fit files texts rows)
    (ends : EndsWith entry.spot.place.file files later)
    (is : row ≡ row_behind (length later) (length texts) entry) where
  pub seen_one_more : rows_seen later (texts ++ entry.name ++ entry.rest) (rows ++ row ∷ [])
      ≡ rows_seen files texts rows ++ entry ∷ []
  seen_one_more =
      let seen : rows_seen later (texts ++ (entry.name ++ entry.rest)) (rows ++ row ∷ [])
      ≡ rows_seen files texts rows ++ row_seen later (texts ++ (entry.name ++ entry.rest)) row ∷ [] =
      subst (λ l. rows_seen l (texts ++ (entry.name ++ entry.rest)) (rows ++ row ∷ [])
      ≡ rows_seen files texts rows ++ row_seen l (texts ++ (entry.name ++ entry.rest)) row ∷ [])
      (sym ends.longer) (seen_with files ends.more texts (entry.name ++ entry.rest) rows row fit) in
      let own : row_seen later (texts ++ (entry.name ++ entry.rest)) row ≡ entry =
      ap (row_seen later (texts ++ (entry.name ++ entry.rest))) is ∙ own_row later texts entry ends.last in
      ap (λ t. rows_seen later t (rows ++ row ∷ [])) (append_assoc texts entry.name entry.rest) ∙ seen
      ∙ ap (λ last. rows_seen files texts rows ++ last ∷ []) own

  pub fit_one_more : IsUtf8 texts → IsUtf8 entry.name → IsUtf8 entry.rest
      → Fit later (texts ++ entry.name ++ entry.rest) (rows ++ row ∷ [])
  fit_one_more valid name rest =
      let filled : IsFilled later (texts ++ (entry.name ++ entry.rest)) row =
      subst (IsFilled later (texts ++ (entry.name ++ entry.rest))) (sym is)
      (own_filled later texts entry ends.some valid name rest) in
      subst (λ t. Fit later t (rows ++ row ∷ [])) (sym (append_assoc texts entry.name entry.rest))
      (subst (λ l. Fit l (texts ++ (entry.name ++ entry.rest)) (rows ++ row ∷ [])) (sym ends.longer)
      (fit_with files ends.more texts (entry.name ++ entry.rest) rows row fit
      (subst (λ l. IsFilled l (texts ++ (entry.name ++ entry.rest)) row) ends.longer filled)))

-- ---- files

pub same_files : (file : List ℕ) (files : List (List ℕ)) → is_last files file ≡ true
    → EndsWith file files files
same_files file [] is = cc
same_files file (first ∷ files) is =
    let count : length (first ∷ files) - 1 ≡ length files = omega arith in
    record {
      more = [];
      longer = sym (append-nil (first ∷ files));
      some = omega arith;
      last = ap (file_at (first ∷ files)) count ∙
          (bytes_eq-Decides (file_at (first ∷ files) (length files)) file).0 is;
    }

pub one_more_file : (file : List ℕ) (files : List (List ℕ)) → EndsWith file files (files ++ file ∷ [])
one_more_file file files =
    let longer : length (files ++ file ∷ []) ≡ length files + 1 = length-append files (file ∷ []) in
    record {
      more = file ∷ [];
      longer = refl;
      some = omega (arith, longer);
      last = get_or_push files file [] (length (files ++ file ∷ []) - 1) (omega (arith, longer));
    }
