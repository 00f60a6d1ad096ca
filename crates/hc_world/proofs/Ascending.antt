-- The entries of a map, in their order, are those of the world that they stand for.
use Rattle.hc_world.proofs.Common.{◌≡◌, ℕ, Bool, true, false, ◌&&◌, List, [], ◌∷◌, map, Vec, sym, ap}
use Rattle.hc_world.proofs.Common.{◌∙◌, refl, subst, T, Global, Less, from_sorted, entries-from_sorted}
use Rattle.hc_world.proofs.Common.{get-from_entries, get-from_sorted, keys, AllByRecursion, keys_of, is_lt, nat_cmp}
use Rattle.hc_world.proofs.Common.{slice_cmp, nat_list_cmp_total, Entry, entry_of, world_of}
use Rattle.std.specs.FinMap.Entries.{below_all, is_sorted}
use Rattle.std.specs.List.Sorted.{IsStrictlySortedBy}
use Rattle.hc_world.proofs.Lookups.{same_answers}

abbrev pub Entries : Type 0
Entries = List (Vec ℕ Global × Entry)

both : (a b : Bool) → T a → T b → T (a && b)
both true b p q = q
both false b p q = p

below : (key : Vec ℕ Global) (entries : Entries)
    → AllByRecursion (λ y. slice_cmp nat_cmp key.items y.items ≡ Less) (keys_of entries)
    → T (below_all (slice_cmp nat_cmp) key.items (map entry_of entries))
below key [] all = tt
below key (e ∷ es) all = subst (λ o. T (is_lt o && below_all (slice_cmp nat_cmp) key.items (map entry_of es)))
    (sym all.0) (below key es all.1)

abbrev pub Ascend : Entries → Type 0
Ascend entries = IsStrictlySortedBy (λ a b. slice_cmp nat_cmp a.items b.items) (keys_of entries)

sorted : (entries : Entries) → Ascend entries → T (is_sorted (slice_cmp nat_cmp) (map entry_of entries))
unfolding IsStrictlySortedBy
sorted [] s = tt
sorted (e ∷ es) s = both _ _ (below e.0 es s.0) (sorted es s.1)

pub keys-world_of : (entries : Entries) → Ascend entries
    → keys (world_of entries) ≡ map (λ e. e.0) (map entry_of entries)
keys-world_of entries s =
    let rises = sorted entries s in
    let same : world_of entries ≡ from_sorted (map entry_of entries) =
    same_answers _ _ (λ q. get-from_entries nat_list_cmp_total (map entry_of entries) q
    ∙ sym (get-from_sorted (slice_cmp nat_cmp) (map entry_of entries) q rises)) in
    ap keys same ∙ ap (map (λ e. e.0)) (entries-from_sorted (slice_cmp nat_cmp) (map entry_of entries) rises)

entry_keys : (entries : Entries)
    → map (λ e. e.0) (map entry_of entries) ≡ map (λ key. key.items) (keys_of entries)
entry_keys [] = refl
entry_keys (e ∷ es) = ap (λ l. e.0.items ∷ l) (entry_keys es)

pub keys_in_order : (entries : Entries) → Ascend entries
    → map (λ key. key.items) (keys_of entries) ≡ keys (world_of entries)
keys_in_order entries s = sym (entry_keys entries) ∙ sym (keys-world_of entries s)
