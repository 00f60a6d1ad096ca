-- EditsFiles of a world.
use Rattle.hc_world.proofs.Common.{◌≡◌, ℕ, ◌+◌, ◌<◌, Bool, true, false, not, ◌&&◌, ◌||◌, cond}
use Rattle.hc_world.proofs.Common.{eqb, List, [], ◌∷◌, length, take, Option, Some, None, Result, Ok, Err, IsSome}
use Rattle.hc_world.proofs.Common.{Contains, refl, sym, ap, ◌∙◌, subst, arith, rules, ⊎_elim, list_any, nat_cmp}
use Rattle.hc_world.proofs.Common.{slice_cmp, get, insert, remove, get-empty, empty, cases_Bool, false≢true}
use Rattle.hc_world.proofs.Common.{and_parts, eqb-true, cond-true, cond-false, cond_both, false_from_ne_true, Node, dir}
use Rattle.hc_world.proofs.Common.{file, text, is_dir, is_file, kind_of, text_of, Absent, Dir, File, World, IsWorld}
use Rattle.hc_world.proofs.Common.{root, parents, with_dirs, with_node, new_world, is_path, is_under_file, list_dir}
use Rattle.hc_world.proofs.Common.{put_file, EditsFiles, IsEdit, add_in, IsNextSlash, fronts_from}
use Rattle.std.specs.Bool.{⊤}
use Rattle.std.proofs.Math.Bool.{or-false, or-true}
use Rattle.std.specs.Result.{is_err}
use Rattle.std.proofs.lemmas.Map.Lookups.{exact_bytes}
use Rattle.std.proofs.lemmas.List.Elements.{All-contains_itself, All-weaker}
use Rattle.std.proofs.lemmas.List.Folds.{list_any_none}
use Rattle.std.proofs.lemmas.Map.Views.{Contains-from_any, tells_apart}
use Rattle.hc_base.specs.declared.codes.TheConstants.{IS_DIRECTORY, PATH_FORM, UNDER_FILE}
use Rattle.hc_base.specs.declared.fault.Fault.{Fault}
use Rattle.hc_base.specs.declared.fault.Fault.TheVariants.{NoMemory, Refused}
use Rattle.hc_world.proofs.Lookups.{same_path, same_path-true, same_answers, get_inserted, get_removed}
use Rattle.hc_world.proofs.Slashes.{fronts_from-some}
use Rattle.hc_world.proofs.Parents.{is_among, is_among-from_Contains, parent_is_path, parents-long, parent_shorter}
use Rattle.hc_world.proofs.Parents.{parents_of_parent}

-- ---- what stands at a path

pub dir_from_kind : (o : Option Node) → kind_of o ≡ Dir → o ≡ Some dir
dir_from_kind None h = cc
dir_from_kind (Some dir) h = refl
dir_from_kind (Some file) h = cc
dir_from_kind (Some (text bytes)) h = cc

pub none_from_kind : (o : Option Node) → kind_of o ≡ Absent → o ≡ None
none_from_kind None h = refl
none_from_kind (Some dir) h = cc
none_from_kind (Some file) h = cc
none_from_kind (Some (text bytes)) h = cc

pub file_from_kind : (o : Option Node) → kind_of o ≡ File → is_file o ≡ true
file_from_kind None h = cc
file_from_kind (Some dir) h = cc
file_from_kind (Some file) h = refl
file_from_kind (Some (text bytes)) h = refl

-- ---- an insertion

-- What is there already, put again, changes nothing.
insert_same : (w : World) (path : List ℕ) (node : Node) → get w path ≡ Some node → insert w path node ≡ w
insert_same w path node h = same_answers _ _ (λ q.
    get_inserted w path node q
    ∙ elim (same_path q path) as (λ b. same_path q path ≡ b → cond b (Some node) (get w q) ≡ get w q) [
      | true ↦ λ e. sym h ∙ ap (get w) (sym (same_path-true q path e))
      | false ↦ λ e. refl
    ] refl)

-- What was absent, put and removed, changes nothing.
pub remove_inserted : (w : World) (path : List ℕ) (node : Node) → get w path ≡ None
    → remove (insert w path node) path ≡ w
remove_inserted w path node h = same_answers _ _ (λ q.
    get_removed (insert w path node) path q ∙ ap (cond (same_path q path) None) (get_inserted w path node q)
    ∙ elim (same_path q path) as (λ b. same_path q path ≡ b → cond b None (cond b (Some node) (get w q))
    ≡ get w q) [
      | true ↦ λ e. sym h ∙ ap (get w) (sym (same_path-true q path e))
      | false ↦ λ e. refl
    ] refl)

-- ---- directories above a path

get-with_dirs : (w : World) (paths : List (List ℕ)) (q : List ℕ) → get (with_dirs w paths) q
    ≡ cond (is_among paths q) (Some dir) (get w q)
get-with_dirs w [] q = refl
get-with_dirs w (p ∷ ps) q =
    get-with_dirs (insert w p dir) ps q ∙ ap (cond (is_among ps q) (Some dir)) (get_inserted w p dir q)
    ∙ elim (same_path q p) as (λ b. cond (is_among ps q) (Some dir) (cond b (Some dir) (get w q))
    ≡ cond (b || is_among ps q) (Some dir) (get w q)) [
      | true ↦ elim (is_among ps q) as (λ a. cond a (Some dir) (Some dir) ≡ Some dir)
          [ true ↦ refl | false ↦ refl ]
      | false ↦ refl
    ]

-- A directory in place of what is no file makes no file.
is_file-insert : (w : World) (p q : List ℕ) → is_file (get w p) ≡ false → is_file (get (insert w p dir) q)
    ≡ is_file (get w q)
is_file-insert w p q h =
    ap is_file (get_inserted w p dir q)
    ∙ elim (same_path q p) as (λ b. same_path q p ≡ b → is_file (cond b (Some dir) (get w q))
    ≡ is_file (get w q)) [
      | true ↦ λ e. sym h ∙ ap (λ x. is_file (get w x)) (sym (same_path-true q p e))
      | false ↦ λ e. refl
    ] refl

list_any-same : {A : Type 0} (f g : A → Bool) → ((x : A) → f x ≡ g x) → (xs : List A)
    → list_any f xs ≡ list_any g xs
list_any-same f g h [] = refl
list_any-same f g h (x ∷ xs) = ap (λ b. b || list_any f xs) (h x) ∙ ap (λ b. g x || b) (list_any-same f g h xs)

pub add_in-file : (w : World) (p : List ℕ) (ps : List (List ℕ)) (path : List ℕ) (node : Node)
    → is_file (get w p) ≡ true → add_in w (p ∷ ps) path node ≡ Err UNDER_FILE
add_in-file w p ps path node h =
    ap (λ b. cond (b || list_any (λ a. is_file (get w a)) ps) (Err UNDER_FILE)
    (Ok (insert (with_dirs w (p ∷ ps)) path node))) h

add_in-made : (w : World) (p : List ℕ) (ps : List (List ℕ)) (path : List ℕ) (node : Node)
    → is_file (get w p) ≡ false → add_in w (p ∷ ps) path node ≡ add_in (insert w p dir) ps path node
add_in-made w p ps path node h =
    ap (λ b. cond (b || list_any (λ a. is_file (get w a)) ps) (Err UNDER_FILE)
    (Ok (insert (with_dirs w (p ∷ ps)) path node))) h
    ∙ ap (λ b. cond b (Err UNDER_FILE) (Ok (insert (with_dirs w (p ∷ ps)) path node)))
    (sym (list_any-same (λ a. is_file (get (insert w p dir) a)) (λ a. is_file (get w a))
    (λ q. is_file-insert w p q h) ps))

pub add_in-dir : (w : World) (p : List ℕ) (ps : List (List ℕ)) (path : List ℕ) (node : Node)
    → get w p ≡ Some dir → add_in w (p ∷ ps) path node ≡ add_in w ps path node
add_in-dir w p ps path node h = add_in-made w p ps path node (ap is_file h)
    ∙ ap (λ v. add_in v ps path node) (insert_same w p dir h)

-- The first missing directory is made, and the rest follows.
pub add_in-absent : (w made : World) (path : List ℕ) (from slash : ℕ) (node : Node) → IsNextSlash path from slash
    → get w (take slash path) ≡ None → made ≡ insert w (take slash path) dir
    → add_in w (fronts_from path from) path node ≡ add_in made (fronts_from path (slash + 1)) path node
add_in-absent w made path from slash node is none e =
    ap (λ ps. add_in w ps path node) (fronts_from-some path from slash is)
    ∙ add_in-made w (take slash path) (fronts_from path (slash + 1)) path node (ap is_file none)
    ∙ ap (λ v. add_in v (fronts_from path (slash + 1)) path node) (sym e)

-- A failed edit of a world that was changed first, where the change is undone.
pub Edits_undone : (result : Result ⊤ (Fault ℕ)) (old changed left new : World) (edit : Result World ℕ)
    → is_err result ≡ true → (left ≡ changed → new ≡ old) → EditsFiles result changed left edit
    → EditsFiles result old new edit
Edits_undone (Ok _) old changed left new edit h undo e = absurd (false≢true h)
Edits_undone (Err (Refused code)) old changed left new edit h undo e = (e.0, undo e.1)
Edits_undone (Err NoMemory) old changed left new edit h undo e = undo e

-- ---- an edit as a whole

no_file_above : (w : World) (paths : List (List ℕ))
    → ((above : List ℕ) → Contains paths above → get w above ≡ Some dir)
    → list_any (λ a. is_file (get w a)) paths ≡ false
no_file_above w paths h =
    list_any_none (λ a. is_file (get w a)) paths
    (All-weaker (Contains paths) (λ a. is_file (get w a) ≡ false) (λ a c. ap is_file (h a c)) paths
    (All-contains_itself paths))

pub is_some_dir : (o : Option Node) → is_dir o ≡ true → IsSome o
is_some_dir None h = absurd (false≢true h)
is_some_dir (Some node) h = search rules

pub is_some_file : (o : Option Node) → is_file o ≡ true → IsSome o
is_some_file None h = absurd (false≢true h)
is_some_file (Some node) h = search rules

pub file_no_dir : (o : Option Node) → is_file o ≡ true → is_dir o ≡ false
file_no_dir None h = refl
file_no_dir (Some dir) h = absurd (false≢true h)
file_no_dir (Some file) h = refl
file_no_dir (Some (text bytes)) h = refl

put_formed : (w : World) (path : List ℕ) (node : Node) → is_path path ≡ true
    → put_file w path node ≡ cond (is_under_file w path) (Err UNDER_FILE)
    (cond (is_dir (get w path)) (Err IS_DIRECTORY) (Ok (insert (with_dirs w (parents path)) path node)))
put_formed w path node h =
    ap (λ b. cond (not b) (Err PATH_FORM)
    (cond (is_under_file w path) (Err UNDER_FILE)
    (cond (is_dir (get w path)) (Err IS_DIRECTORY) (Ok (insert (with_dirs w (parents path)) path node))))) h

-- What is there has no file above it.
pub put-is_dir : (w : World) (path : List ℕ) (node : Node) → IsWorld w → is_path path ≡ true
    → is_dir (get w path) ≡ true → put_file w path node ≡ Err IS_DIRECTORY
put-is_dir w path node is formed h =
    put_formed w path node formed
    ∙ ap (λ b. cond b (Err UNDER_FILE)
    (cond (is_dir (get w path)) (Err IS_DIRECTORY) (Ok (insert (with_dirs w (parents path)) path node))))
    (no_file_above w (parents path) (λ a c. is.parents_are_dirs path a (is_some_dir _ h) c))
    ∙ ap (λ b. cond b (Err IS_DIRECTORY) (Ok (insert (with_dirs w (parents path)) path node))) h

-- The path is no root, since the root is a directory.
long : (w : World) (path : List ℕ) → IsWorld w → is_path path ≡ true → is_dir (get w path) ≡ false
    → 1 < length path
long w [] is formed h = absurd (false≢true formed)
long w (x ∷ []) is formed h =
    let slash : x ≡ 47 = eqb-true x 47 (and_parts (eqb x 47) _ (and_parts (eqb x 47 && true) _ formed).0).0 in
    absurd (false≢true (sym h ∙ ap (λ b. is_dir (get w (b ∷ []))) slash ∙ ap is_dir is.root_is_dir))
long w (x ∷ y ∷ rest) is formed h = omega arith

put-parents : (w : World) (path : List ℕ) (node : Node) → is_path path ≡ true → is_dir (get w path) ≡ false
    → put_file w path node ≡ add_in w (parents path) path node
put-parents w path node formed h = put_formed w path node formed
    ∙ ap (λ b. cond (is_under_file w path) (Err UNDER_FILE)
    (cond b (Err IS_DIRECTORY) (Ok (insert (with_dirs w (parents path)) path node)))) h

put-add_in : (w : World) (path : List ℕ) (node : Node) → IsWorld w → is_path path ≡ true
    → is_dir (get w path) ≡ false → put_file w path node ≡ add_in w (fronts_from path 1) path node
put-add_in w path node is formed h =
    put-parents w path node formed h ∙ ap (λ ps. add_in w ps path node) (parents-long path (long w path is formed h))
    ∙ add_in-dir w root (fronts_from path 1) path node is.root_is_dir

accepted : (b : Bool) (v new : World) → cond {A = Result World ℕ} b (Err UNDER_FILE) (Ok v) ≡ Ok new → v ≡ new
accepted true v new e = cc
accepted false v new e = cc

ok_from_add_in : (w new : World) (paths : List (List ℕ)) (path : List ℕ) (node : Node)
    → add_in w paths path node ≡ Ok new → insert (with_dirs w paths) path node ≡ new
ok_from_add_in w new paths path node h =
    accepted (list_any (λ a. is_file (get w a)) paths) (insert (with_dirs w paths) path node) new h

get-made : (w : World) (path : List ℕ) (node : Node) (q : List ℕ) → get (with_node w path node) q
    ≡ cond (same_path q path) (Some node) (cond (is_among (parents path) q) (Some dir) (get w q))
get-made w path node q = get_inserted (with_dirs w (parents path)) path node q
    ∙ ap (cond (same_path q path) (Some node)) (get-with_dirs w (parents path) q)

get-made_apart : (w : World) (path : List ℕ) (node : Node) (q : List ℕ) → same_path q path ≡ false
    → get (with_node w path node) q ≡ cond (is_among (parents path) q) (Some dir) (get w q)
get-made_apart w path node q e = get-made w path node q
    ∙ ap (λ b. cond b (Some node) (cond (is_among (parents path) q) (Some dir) (get w q))) e

apart : (q path : List ℕ) → (q ≡ path → ⊥) → same_path q path ≡ false
apart q path h = false_from_ne_true _ (λ e. h (same_path-true q path e))

dir_made : (w : World) (path : List ℕ) (node : Node) (q : List ℕ) → is_among (parents path) q ≡ true
    → get (with_node w path node) q ≡ Some dir
dir_made w path node q h =
    get-made_apart w path node q
    (apart q path (λ e. let l = parent_shorter path q h in let m : length q ≡ length path = ap length e in
    omega arith)) ∙ cond-true _ (Some dir) (get w q) h

dir_stays : (w : World) (path : List ℕ) (node : Node) (q : List ℕ) → is_dir (get w path) ≡ false
    → get w q ≡ Some dir → get (with_node w path node) q ≡ Some dir
dir_stays w path node q h is =
    get-made_apart w path node q
    (apart q path (λ e. false≢true (sym h ∙ ap (λ p. is_dir (get w p)) (sym e) ∙ ap is_dir is)))
    ∙ cond_both (is_among (parents path) q) (Some dir) (get w q) (λ o. o ≡ Some dir) (λ _. refl) (λ _. is)

key_made : (w : World) (path : List ℕ) (node : Node) (q : List ℕ) → IsWorld w → is_path path ≡ true
    → IsSome (get (with_node w path node) q) → is_path q ≡ true
key_made w path node q is formed there =
    ⊎_elim
    (λ e. ap is_path (same_path-true q path e) ∙ formed)
    (λ e. ⊎_elim
    (λ a. parent_is_path path q formed a)
    (λ a. is.keys_are_paths q
    (subst IsSome (get-made_apart w path node q e ∙ cond-false _ (Some dir) (get w q) a) there))
    (cases_Bool (is_among (parents path) q)))
    (cases_Bool (same_path q path))

IsWorld-made : (w : World) (path : List ℕ) (node : Node) → IsWorld w → is_path path ≡ true
    → is_dir (get w path) ≡ false → IsWorld (with_node w path node)
IsWorld-made w path node is formed h = record {
  keys_are_paths = λ q there. key_made w path node q is formed there;
  root_is_dir = dir_stays w path node root h is.root_is_dir;
  parents_are_dirs = λ q above there c.
      let k = is_among-from_Contains (parents q) above c in
      ⊎_elim
      (λ e. dir_made w path node above (ap (λ p. is_among (parents p) above) (sym (same_path-true q path e)) ∙ k))
      (λ e. ⊎_elim
      (λ a. dir_made w path node above (parents_of_parent path q above a k))
      (λ a. dir_stays w path node above h
      (is.parents_are_dirs q above
      (subst IsSome (get-made_apart w path node q e ∙ cond-false _ (Some dir) (get w q) a) there) c))
      (cases_Bool (is_among (parents path) q)))
      (cases_Bool (same_path q path));
}

pub IsEdit_same : (path : List ℕ) (old new : World) → IsWorld old → new ≡ old → IsEdit path old new
IsEdit_same path old new is e = record {
  valid = subst IsWorld (sym e) is;
  others = λ q _ _. ap (λ w. get w q) e;
}

IsEdit-made : (w : World) (path : List ℕ) (node : Node) → IsWorld w → is_path path ≡ true
    → is_dir (get w path) ≡ false → IsEdit path w (with_node w path node)
IsEdit-made w path node is formed h = record {
  valid = IsWorld-made w path node is formed h;
  others = λ q ne no. get-made_apart w path node q (apart q path ne)
      ∙ cond-false _ (Some dir) (get w q)
      (false_from_ne_true _ (λ e. no (Contains-from_any (tells_apart exact_bytes) q (parents path) e)));
}

pub IsEdit-from_Edits : (result : Result ⊤ (Fault ℕ)) (w new : World) (path : List ℕ) (node : Node) → IsWorld w
    → is_path path ≡ true → is_dir (get w path) ≡ false → EditsFiles result w new (put_file w path node)
    → IsEdit path w new
IsEdit-from_Edits (Ok _) w new path node is formed h e =
    subst (IsEdit path w) (ok_from_add_in w new (parents path) path node (sym (put-parents w path node formed h) ∙ e))
    (IsEdit-made w path node is formed h)
IsEdit-from_Edits (Err (Refused code)) w new path node is formed h e = IsEdit_same path w new is e.1
IsEdit-from_Edits (Err NoMemory) w new path node is formed h e = IsEdit_same path w new is e

-- The directories above what is there stand already.
with_dirs_same : (w : World) (path : List ℕ) → IsWorld w → IsSome (get w path) → with_dirs w (parents path)
    ≡ w
with_dirs_same w path is there = same_answers _ _ (λ q.
    get-with_dirs w (parents path) q ∙ elim (is_among (parents path) q) as (λ a. is_among (parents path) q ≡ a
    → cond a (Some dir) (get w q) ≡ get w q) [
      | true ↦ λ a. sym
          (is.parents_are_dirs path q there (Contains-from_any (tells_apart exact_bytes) q (parents path) a))
      | false ↦ λ _. refl
    ] refl)

with_node_same : (w : World) (path : List ℕ) → IsWorld w → get w path ≡ Some dir → with_node w path dir ≡ w
with_node_same w path is h = ap (λ v. insert v path dir) (with_dirs_same w path is (is_some_dir _ (ap is_dir h)))
    ∙ insert_same w path dir h

-- A file is put in a file's place.
pub put-is_file : (w : World) (path : List ℕ) (node : Node) → IsWorld w → is_path path ≡ true
    → is_file (get w path) ≡ true → put_file w path node ≡ Ok (insert w path node)
put-is_file w path node is formed h =
    let there = is_some_file _ h in
    put-parents w path node formed (file_no_dir _ h)
    ∙ ap (λ b. cond b (Err UNDER_FILE) (Ok (insert (with_dirs w (parents path)) path node)))
    (no_file_above w (parents path) (λ a c. is.parents_are_dirs path a there c))
    ∙ ap (λ v. Ok (insert v path node)) (with_dirs_same w path is there)

-- A file is written over.
pub IsEdit-written : (result : Result ⊤ (Fault ℕ)) (w new : World) (path : List ℕ) (node : Node) → IsWorld w
    → is_path path ≡ true → is_file (get w path) ≡ true → EditsFiles result w new (Ok (insert w path node))
    → IsEdit path w new
IsEdit-written result w new path node is formed h e =
    IsEdit-from_Edits result w new path node is formed (file_no_dir _ h)
    (subst (EditsFiles result w new) (sym (put-is_file w path node is formed h)) e)

pub file_from_text : (o : Option Node) (bytes : List ℕ) → Some bytes ≡ text_of o → is_file o ≡ true
file_from_text None bytes h = cc
file_from_text (Some dir) bytes h = cc
file_from_text (Some file) bytes h = cc
file_from_text (Some (text other)) bytes h = refl

pub EditsFiles-from_add : (result : Result ⊤ (Fault ℕ)) (w new : World) (path : List ℕ) (node : Node)
    → IsWorld w → is_path path ≡ true → is_dir (get w path) ≡ false
    → EditsFiles result w new (add_in w (fronts_from path 1) path node)
    → EditsFiles result w new (put_file w path node)
EditsFiles-from_add result w new path node is formed h e =
    subst (EditsFiles result w new) (sym (put-add_in w path node is formed h)) e

-- ---- directories that are listed

list_dir_formed : (w : World) (path : List ℕ) → is_path path ≡ true
    → list_dir w path ≡ cond (is_under_file w path || is_file (get w path)) (Err UNDER_FILE)
    (Ok (with_node w path dir))
list_dir_formed w path h =
    ap (λ b. cond (not b) (Err PATH_FORM)
    (cond (is_under_file w path || is_file (get w path)) (Err UNDER_FILE) (Ok (with_node w path dir)))) h

pub list_dir-file : (w : World) (path : List ℕ) → is_path path ≡ true → is_file (get w path) ≡ true
    → list_dir w path ≡ Err UNDER_FILE
list_dir-file w path formed h =
    list_dir_formed w path formed ∙ ap (λ b. cond b (Err UNDER_FILE) (Ok (with_node w path dir)))
    (ap (λ b. is_under_file w path || b) h ∙ or-true (is_under_file w path))

-- Where nothing is, it is an entry like any other.
pub list_dir-absent : (w : World) (path : List ℕ) → is_path path ≡ true → get w path ≡ None
    → list_dir w path ≡ put_file w path dir
list_dir-absent w path formed h =
    list_dir_formed w path formed ∙ ap (λ b. cond b (Err UNDER_FILE) (Ok (with_node w path dir)))
    (ap (λ b. is_under_file w path || b) (ap is_file h) ∙ or-false (is_under_file w path))
    ∙ sym (ap
    (λ b. cond (is_under_file w path) (Err UNDER_FILE) (cond b (Err IS_DIRECTORY) (Ok (with_node w path dir))))
    (ap is_dir h)) ∙ sym (put_formed w path dir formed)

pub list_dir-dir : (w : World) (path : List ℕ) → IsWorld w → is_path path ≡ true → get w path ≡ Some dir
    → list_dir w path ≡ Ok w
list_dir-dir w path is formed h =
    list_dir_formed w path formed
    ∙ ap (λ b. cond (b || is_file (get w path)) (Err UNDER_FILE) (Ok (with_node w path dir)))
    (no_file_above w (parents path) (λ a c. is.parents_are_dirs path a (is_some_dir _ (ap is_dir h)) c))
    ∙ ap (λ b. cond b (Err UNDER_FILE) (Ok (with_node w path dir))) (ap is_file h)
    ∙ ap Ok (with_node_same w path is h)

-- ---- the world of the root alone

pub IsWorld-new_world : IsWorld new_world
IsWorld-new_world = record {
  keys_are_paths = λ q there.
      ⊎_elim
      (λ e. ap is_path (same_path-true q root e))
      (λ e. absurd
      (search (
        rules,
        subst IsSome (get_inserted empty root dir q ∙ cond-false _ (Some dir) (get empty q) e
            ∙ get-empty (slice_cmp nat_cmp) q) there,
      )))
      (cases_Bool (same_path q root));
  root_is_dir = get_inserted empty root dir root;
  parents_are_dirs = λ q above there c.
      ⊎_elim
      (λ e. let k : is_among (parents root) above ≡ true = ap (λ p. is_among (parents p) above)
      (sym (same_path-true q root e)) ∙ is_among-from_Contains (parents q) above c in absurd (false≢true k))
      (λ e. absurd
      (search (
        rules,
        subst IsSome (get_inserted empty root dir q ∙ cond-false _ (Some dir) (get empty q) e
            ∙ get-empty (slice_cmp nat_cmp) q) there,
      )))
      (cases_Bool (same_path q root));
}
