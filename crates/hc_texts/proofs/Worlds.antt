-- Each edit of a world, and the texts that it leaves.
use Rattle.std.proofs.Common.{◌≡◌, ℕ, Bool, true, false, cond, not, List, [], ◌∷◌, Some, None, Result, Ok, Err}
use Rattle.std.proofs.Common.{refl, sym, ap, ◌∙◌, subst, ◌||◌}
use Rattle.std.specs.Cmp.Lexicographic.{slice_cmp}
use Rattle.std.specs.FinMap.{empty, get, get-empty, get-insert, get-retain_keys, insert, retain_keys}
use Rattle.std.specs.Ordering.{eq_by_cmp, nat_cmp}
use Rattle.std.proofs.lemmas.Cmp.{nat_list_cmp_total}
use Rattle.std.proofs.lemmas.Map.Lookups.{exact_bytes}
use Rattle.hc_base.specs.declared.codes.TheConstants.{IS_DIRECTORY, PATH_FORM, UNDER_FILE}
use Rattle.hc_kept_lines.specs.Runs.{AreLinesOf}
use Rattle.hc_kept_lines.specs.declared.lines.KeptLines.{KeptLines}
use Rattle.hc_model.specs.Node.{Node, dir, file, text, text_of, is_dir, is_file}
use Rattle.hc_model.specs.World.{World, is_path, is_under_file, parents, put_file, root, with_dirs, with_node}
use Rattle.hc_texts.specs.Laws.{DroppedTexts, EditedTexts, ListedTexts, NewTexts, PutTexts}
use Rattle.hc_texts.specs.Texts.{AreTextsOf, HasLines, Texts}
use Rattle.hc_world.specs.Edits.{is_within, with_lines}
use Rattle.hc_world.specs.declared.world.ListKind.TheVariants.{Dir, File}

abbrev same_path : List ℕ → List ℕ → Bool
same_path = eq_by_cmp (slice_cmp nat_cmp)

-- ---- one node more

some_text : (a b : List ℕ) → Some a ≡ Some b → a ≡ b
some_text a b e = cc

-- Where the new node has a text, its lines are put.
with_text : (world : World) (texts : Texts) (path bytes : List ℕ) (kept : KeptLines) → AreTextsOf world texts
    → AreLinesOf bytes kept → AreTextsOf (insert world path (text bytes)) (insert texts path kept)
with_text world texts path bytes kept are new q other is =
    by (same_path q path) (get-insert nat_list_cmp_total texts path kept q)
    (sym (ap text_of (get-insert nat_list_cmp_total world path (text bytes) q)) ∙ is)
  where
    by : (b : Bool) → get (insert texts path kept) q ≡ cond b (Some kept) (get texts q)
        → text_of (cond b (Some (text bytes)) (get world q)) ≡ Some other → HasLines (insert texts path kept) q other
    by true at e = record { kept = kept; there = at; are = subst (λ t. AreLinesOf t kept) (some_text _ _ e) new }
    by false at e = let old = are q other e in record { kept = old.kept; there = at ∙ old.there; are = old.are }

-- Where it has none, the lines of the others stand.
with_none : (world : World) (texts : Texts) (path : List ℕ) (node : Node) → text_of (Some node) ≡ None
    → AreTextsOf world texts → AreTextsOf (insert world path node) texts
with_none world texts path node none are q other is =
    by (same_path q path) (sym (ap text_of (get-insert nat_list_cmp_total world path node q)) ∙ is)
  where
    by : (b : Bool) → text_of (cond b (Some node) (get world q)) ≡ Some other → HasLines texts q other
    by true e = cc
    by false e = are q other e

with_dirs_are : (world : World) (texts : Texts) (paths : List (List ℕ)) → AreTextsOf world texts
    → AreTextsOf (with_dirs world paths) texts
with_dirs_are world texts [] are = are
with_dirs_are world texts (p ∷ ps) are = with_dirs_are (insert world p dir) texts ps (with_none world texts p dir refl are)

-- ---- what an edit that isn't refused leaves

passed : (b : Bool) (code : ℕ) (edit : Result World ℕ) (files : World) → cond b (Err code) edit ≡ Ok files
    → edit ≡ Ok files
passed true code edit files e = cc
passed false code edit files e = e

-- The same of a test that is to hold.
chosen : (b : Bool) (code : ℕ) (edit : Result World ℕ) (files : World) → cond b edit (Err code) ≡ Ok files
    → edit ≡ Ok files
chosen true code edit files e = e
chosen false code edit files e = cc

left : (made files : World) → ◌≡◌ {A = Result World ℕ} (Ok made) (Ok files) → made ≡ files
left made files e = cc

-- ---- the laws

no_text : (texts : Texts) (q other : List ℕ) → None ≡ Some other → HasLines texts q other
no_text texts q other e = cc

pub new_texts : NewTexts
new_texts texts = with_none empty texts root dir refl (λ q other e.
    no_text texts q other (sym (ap text_of (get-empty (slice_cmp nat_cmp) q)) ∙ e))

put_left : (world files : World) (path : List ℕ) (node : Node) → put_file world path node ≡ Ok files
    → with_node world path node ≡ files
put_left world files path node e =
    left _ _ (passed (is_dir (get world path)) IS_DIRECTORY _ _ (passed (is_under_file world path) UNDER_FILE _ _
    (passed (not (is_path path)) PATH_FORM _ _ e)))

pub put_texts : PutTexts
put_texts world files texts path bytes kept are e new =
    subst (λ w. AreTextsOf w (insert texts path kept)) (put_left world files path (text bytes) e)
    (with_text (with_dirs world (parents path)) texts path bytes kept (with_dirs_are world texts (parents path) are) new)

pub listed_texts : ListedTexts
listed_texts world files texts path File are e =
    subst (λ w. AreTextsOf w texts) (put_left world files path file e)
    (with_none (with_dirs world (parents path)) texts path file refl (with_dirs_are world texts (parents path) are))
listed_texts world files texts path Dir are e =
    subst (λ w. AreTextsOf w texts)
    (left _ _ (passed (is_under_file world path || is_file (get world path)) UNDER_FILE _ _
    (passed (not (is_path path)) PATH_FORM _ _ e)))
    (with_none (with_dirs world (parents path)) texts path dir refl (with_dirs_are world texts (parents path) are))

pub edited_texts : EditedTexts
edited_texts world files texts path from to old new kept are e there put =
    let edit = ap (with_lines world path from to new) (sym there) ∙ passed _ _ _ _ e in
    subst (λ w. AreTextsOf w (insert texts path kept)) (left _ _ (chosen _ _ _ _ edit))
    (with_text world texts path _ kept are put)

pub dropped_texts : DroppedTexts
dropped_texts world files texts path are e =
    subst (λ w. AreTextsOf w (retain_keys texts stays)) (left _ _ (chosen _ _ _ _ (passed _ _ _ _ e)))
    (λ q other is. by q other (stays q)
    (get-retain_keys texts stays q (λ x t. ap stays (sym (exact_bytes q x t))))
    (sym (ap text_of (get-retain_keys world stays q (λ x t. ap stays (sym (exact_bytes q x t))))) ∙ is))
  where
    stays : List ℕ → Bool
    stays other = not (is_within path other)

    by : (q other : List ℕ) (b : Bool) → get (retain_keys texts stays) q ≡ cond b (get texts q) None
        → text_of (cond b (get world q) None) ≡ Some other → HasLines (retain_keys texts stays) q other
    by q other true at e = let old = are q other e in record { kept = old.kept; there = at ∙ old.there; are = old.are }
    by q other false at e = cc
