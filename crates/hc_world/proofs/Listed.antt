-- The paths of the files, or of the directories, and the texts. For callers: `among_paths`, `utf8_bytes`.
use Rattle.hc_world.proofs.Common.{◌≡◌, ◌<◌, ◌+◌, ℕ, Bool, true, false, ◌&&◌, List, [], ◌∷◌}
use Rattle.hc_world.proofs.Common.{◌++◌, map, cond, nat_eq, Option, Some, None, option_map, Vec, Global, refl, sym}
use Rattle.hc_world.proofs.Common.{ap, ◌∙◌, subst, arith, ⊎_elim, and_parts, filter, list_any, AllByRecursion}
use Rattle.hc_world.proofs.Common.{get, keys, keys_of, Node, dir, file, text, text_of, World, Entry, node_of, world_of}
use denote.Ref.{Bor}
use lib.Utf8.{encode, encodes, next, scalar, scalar_cases, scalars}
use Rattle.std.specs.Cmp.Lexicographic.{pointwise}
use Rattle.std.specs.FinMap.{contains_key-keys}
use Rattle.std.specs.Option.{is_some}
use Rattle.std.specs.Str.{IsUtf8}
use Rattle.std.proofs.Common.{string_bytes, ◌/◌, ◌^◌, ltb}
use Rattle.std.proofs.lemmas.Bool.{ltb-true}
use Rattle.std.proofs.lemmas.List.{map-append}
use Rattle.std.proofs.lemmas.List.Elements.{filter-append}
use Rattle.std.proofs.lemmas.Str.{IsUtf8-string_bytes}
use Rattle.hc_world.specs.Places.{HasUtf8, is_listed, paths_of}
use Rattle.hc_world.specs.declared.nodes.Entry.TheVariants as entry
use Rattle.hc_world.specs.declared.world.ListKind.{ListKind}
use Rattle.hc_world.specs.declared.world.ListKind.TheVariants as kinds
use Rattle.hc_world.proofs.Ascending.{Ascend, Entries, keys_in_order}
use Rattle.hc_world.proofs.Drops.{among_filter, bytes_eq-is}
use Rattle.hc_world.proofs.Lookups.{entry_at, get-map_of}

-- ---- the loop over the keys

abbrev pub bytes_of : Bor (Vec ℕ Global) → List ℕ
bytes_of key = key.now.items

module _ (p : List ℕ → Bool) where
  pub one_more : (seen : List (Bor (Vec ℕ Global))) (key : Bor (Vec ℕ Global)) (path : List ℕ)
      (paths new : List (List ℕ)) → path ≡ bytes_of key → new ≡ paths ++ filter p (path ∷ [])
      → paths ≡ filter p (map bytes_of seen) → new ≡ filter p (map bytes_of (seen ++ key ∷ []))
  one_more seen key path paths new is pushed so_far =
      pushed ∙ (λ i. so_far i ++ filter p (is i ∷ []))
      ∙ sym (filter-append p (map bytes_of seen) (bytes_of key ∷ []))
      ∙ ap (filter p) (sym (map-append bytes_of seen (key ∷ [])))

  pub all_keys : (seen : List (Bor (Vec ℕ Global))) (paths : List (List ℕ)) (entries : Entries) (world : World)
      → Ascend entries → world_of entries ≡ world → map (λ key. key.now) seen ≡ keys_of entries
      → paths ≡ filter p (map bytes_of seen) → paths ≡ filter p (keys world)
  all_keys seen paths entries world ascend is whole so_far =
      so_far ∙ ap (filter p) (bytes seen ∙ ap (map (λ key. key.items)) whole ∙ keys_in_order entries ascend
      ∙ ap keys is)
    where
      bytes : (seen : List (Bor (Vec ℕ Global))) → map bytes_of seen
          ≡ map (λ key. key.items) (map (λ key. key.now) seen)
      bytes [] = refl
      bytes (key ∷ seen) = ap (λ l. bytes_of key ∷ l) (bytes seen)

-- ---- which paths these are

absent : (kind : ListKind) (node : Option Node) → (is_listed kind node && is_some node) ≡ is_listed kind node
absent kinds.File None = refl
absent kinds.File (Some dir) = refl
absent kinds.File (Some file) = refl
absent kinds.File (Some (text bytes)) = refl
absent kinds.Dir None = refl
absent kinds.Dir (Some dir) = refl
absent kinds.Dir (Some file) = refl
absent kinds.Dir (Some (text bytes)) = refl

pub among_paths : (world : World) (kind : ListKind) (path : List ℕ)
    → list_any (pointwise nat_eq path) (paths_of world kind) ≡ is_listed kind (get world path)
among_paths world kind path =
    (λ i. list_any (λ other. bytes_eq-is path other i) (paths_of world kind))
    ∙ among_filter (λ path. is_listed kind (get world path)) (keys world) path
    ∙ ap (λ b. is_listed kind (get world path) && b) (sym (contains_key-keys world path))
    ∙ absent kind (get world path)

-- ---- texts

pub utf8_texts : (entries : Entries) → HasUtf8 (world_of entries)
utf8_texts entries path bytes is =
    by (entry_at entries path) (sym (ap text_of (get-map_of node_of entries path)) ∙ is)
  where
    by : (found : Option Entry) → text_of (option_map node_of found) ≡ Some bytes → IsUtf8 bytes
    by None e = absurd (cc)
    by (Some entry.Dir) e = absurd (cc)
    by (Some entry.File) e = absurd (cc)
    by (Some (entry.Text own)) e =
        let same : string_bytes own ≡ bytes = cc in
        subst IsUtf8 same (IsUtf8-string_bytes own)

abbrev IsBytes : List ℕ → Type 0
IsBytes = AllByRecursion (λ byte. byte < 256)

bytes_then : (bytes more : List ℕ) → IsBytes bytes → IsBytes more → IsBytes (bytes ++ more)
bytes_then [] more all rest = rest
bytes_then (byte ∷ bytes) more all rest = (all.0, bytes_then bytes more all.1 rest)

char_bytes : (c : ℕ) → c < 2 ^ 21 → IsBytes (encode c)
unfolding encode
char_bytes c small =
    by (ltb c 128) (ltb c 2048) (ltb c 65536) refl refl refl
  where
    by : (one two three : Bool) → ltb c 128 ≡ one → ltb c 2048 ≡ two → ltb c 65536 ≡ three
        → IsBytes (cond one (c ∷ []) (cond two ((192 + c / 64) ∷ next c ∷ []) (cond three
        ((224 + c / 4096) ∷ next (c / 64) ∷ next c ∷ [])
        ((240 + c / 262144) ∷ next (c / 4096) ∷ next (c / 64) ∷ next c ∷ []))))
    by true two three e f g = let l = ltb-true c 128 e in (omega arith, tt)
    by false true three e f g = let l = ltb-true c 2048 f in (omega arith, (omega arith, tt))
    by false false true e f g = let l = ltb-true c 65536 g in (omega arith, (omega arith, (omega arith, tt)))
    by false false false e f g = (omega arith, (omega arith, (omega arith, (omega arith, tt))))

pub utf8_bytes : (bytes : List ℕ) → IsUtf8 bytes → IsBytes bytes
utf8_bytes bytes is = subst IsBytes is.1.1 (by is.0 is.1.0)
  where
    by : (cs : List ℕ) → scalars cs ≡ true → IsBytes (encodes cs)
    by [] all = tt
    by (c ∷ cs) all =
        let both = and_parts (scalar c) (scalars cs) all in
        let small : c < 2 ^ 21 = ⊎_elim (λ h. omega arith) (λ h. omega arith) (scalar_cases c both.0) in
        bytes_then (encode c) (encodes cs) (char_bytes c small) (by cs both.1)
