-- What the entries of the code say of the texts that they stand for.
use Rattle.std.proofs.Common.{◌≡◌, ℕ, Bool, true, false, cond, List, [], ◌∷◌, map, Some, None, Vec, refl}
use Rattle.std.proofs.Common.{sym, ap, ◌∙◌}
use Rattle.std.specs.BTreeMap.{insert_entry}
use Rattle.std.specs.Cmp.Lexicographic.{slice_cmp}
use Rattle.std.specs.FinMap.{get, get-from_entries, get-insert, get-retain_keys, insert, retain_keys, same_map}
use Rattle.std.specs.FinMap.Entries.{find, find-put, find-where_key, put, where_key}
use Rattle.std.specs.List.{filter}
use Rattle.std.specs.Map.{lookup}
use Rattle.std.specs.Ordering.{eq_by_cmp, match_ordering, nat_cmp}
use Rattle.std.specs.declared.alloc.Global.{Global}
use Rattle.std.specs.declared.cmp.Ordering.{Ordering}
use Rattle.std.specs.declared.cmp.Ordering.TheVariants.{Less, Equal, Greater}
use Rattle.std.proofs.lemmas.Cmp.{nat_list_cmp_total}
use Rattle.std.proofs.lemmas.Map.Lookups.{exact_bytes}
use Rattle.hc_kept_lines.specs.declared.lines.KeptLines.{KeptLines}
use Rattle.hc_texts.specs.Texts.{Texts, entry_of, texts_of}

abbrev Order : List ℕ → List ℕ → Ordering
Order = slice_cmp nat_cmp

abbrev Entries : Type 0
Entries = List (Vec ℕ Global × KeptLines)

same_answers : (v w : Texts) → ((q : List ℕ) → get v q ≡ get w q) → v ≡ w
same_answers = same_map nat_list_cmp_total exact_bytes

get-texts_of : (entries : Entries) (q : List ℕ) → get (texts_of entries) q ≡ find Order q (map entry_of entries)
get-texts_of entries = get-from_entries nat_list_cmp_total (map entry_of entries)

-- The lines that a look-up finds.
pub found : (entries : Entries) (q : List ℕ)
    → lookup (λ key. eq_by_cmp Order q key.items) entries ≡ get (texts_of entries) q
found entries q = by entries ∙ sym (get-texts_of entries q)
  where
    by : (es : Entries) → lookup (λ key. eq_by_cmp Order q key.items) es ≡ find Order q (map entry_of es)
    by [] = refl
    by (e ∷ es) = ap (cond (eq_by_cmp Order q e.0.items) (Some e.1)) (by es)

abbrev compare : Vec ℕ Global → Vec ℕ Global → Ordering
compare x y = Order x.items y.items

placed : (entries : Entries) (key : Vec ℕ Global) (kept : KeptLines)
    → map entry_of (insert_entry compare entries key kept) ≡ put Order key.items kept (map entry_of entries)
placed [] key kept = refl
placed (e ∷ es) key kept = by (compare key e.0) (placed es key kept)
  where
    by : (r : Ordering) → map entry_of (insert_entry compare es key kept) ≡ put Order key.items kept (map entry_of es)
        → map entry_of (match_ordering r ((key, kept) ∷ e ∷ es) ((e.0, kept) ∷ es) (e ∷ insert_entry compare es key kept))
        ≡ match_ordering r ((key.items, kept) ∷ map entry_of (e ∷ es)) ((e.0.items, kept) ∷ map entry_of es)
        (entry_of e ∷ put Order key.items kept (map entry_of es))
    by Less more = refl
    by Equal more = refl
    by Greater more = ap (λ l. entry_of e ∷ l) more

pub inserted : (before after : Entries) (key : Vec ℕ Global) (path : List ℕ) (kept : KeptLines)
    → key.items ≡ path → after ≡ insert_entry compare before key kept
    → texts_of after ≡ insert (texts_of before) path kept
inserted before after key path kept is made = ap texts_of made ∙ same_answers _ _ (λ q.
    get-texts_of (insert_entry compare before key kept) q ∙ ap (find Order q) (placed before key kept)
    ∙ find-put Order nat_list_cmp_total q key.items kept (map entry_of before)
    ∙ sym (get-insert nat_list_cmp_total (texts_of before) key.items kept q
    ∙ ap (cond (eq_by_cmp Order q key.items) (Some kept)) (get-texts_of before q)))
    ∙ ap (λ p. insert (texts_of before) p kept) is

filtered : (p : List ℕ → Bool) (entries : Entries)
    → map entry_of (filter (λ e. p e.0.items) entries) ≡ where_key Order p (map entry_of entries)
filtered p [] = refl
filtered p (e ∷ es) = by (p e.0.items) (filtered p es)
  where
    by : (b : Bool) → map entry_of (filter (λ e. p e.0.items) es) ≡ where_key Order p (map entry_of es)
        → map entry_of (cond b (e ∷ filter (λ e. p e.0.items) es) (filter (λ e. p e.0.items) es))
        ≡ cond b (entry_of e ∷ where_key Order p (map entry_of es)) (where_key Order p (map entry_of es))
    by true more = ap (λ l. entry_of e ∷ l) more
    by false more = more

pub retained : (before after : Entries) (p : List ℕ → Bool) → after ≡ filter (λ e. p e.0.items) before
    → texts_of after ≡ retain_keys (texts_of before) p
retained before after p made = ap texts_of made ∙ same_answers _ _ (λ q.
    get-texts_of (filter (λ e. p e.0.items) before) q ∙ ap (find Order q) (filtered p before)
    ∙ find-where_key Order p q (tied q) (map entry_of before)
    ∙ sym (get-retain_keys (texts_of before) p q (tied q) ∙ ap (λ o. cond (p q) o None) (get-texts_of before q)))
  where
    tied : (q x : List ℕ) → Order q x ≡ Equal → p x ≡ p q
    tied q x e = ap p (sym (exact_bytes q x e))
