-- Whether the text of a file has stayed.
use Rattle.std.proofs.Common.{◌≡◌, List, [], Bool, true, false, Option, Some, None, IfNone, IfSome}
use Rattle.std.proofs.Common.{option_and_then, refl, ap, sym, subst, ◌∙◌, if◌then◌else◌}
use Rattle.std.specs.List.{Contains}
use Rattle.std.specs.Map.{lookup}
use Rattle.std.specs.Option.{option_map}
use Rattle.hc_cache.specs.Entries.{is_current}
use Rattle.hc_cache.specs.Views.{value_kept}
use Rattle.hc_model.specs.declared.section.Allowed.{Allowed}
use Rattle.hc_steps.specs.Step.{Path}
use Rattle.hc_world.specs.Edits.{Edited}
use Rattle.hc_kept.specs.Files.{reads_of}
use Rattle.hc_kept.specs.Entries.{AreEntries, Entry, Found, HasNoCurrent, IsCurrent, Kept, file_for, files_in}
use Rattle.hc_kept.specs.Keys.{is_at}
use Rattle.hc_kept.proofs.Entries.{entry_found, entry_is}

module _ {A : Type 0} (found_in : A → Found) (world : Edited) (allowed : Allowed) (dir : Path) (es : List Entry)
    (are : AreEntries es) where
  abbrev Answers : Option A → Type 0
  Answers result =
      IfSome result (λ found. IsCurrent world (files_in es) dir allowed (found_in found))
      × IfNone result (HasNoCurrent world (files_in es) dir allowed)

  kept_answers : (kept : Kept) → lookup (is_at dir allowed) es ≡ Some kept → (stays : Bool)
      → is_current world kept.reads kept.at ≡ stays → (result : Option A)
      → option_map found_in result ≡ (if stays then Some kept.value else None) → Answers result
  kept_answers kept is true stays None value = cc
  kept_answers kept is true stays (Some found) value =
      let it = entry_found allowed dir es kept are.own is in
      let same : found_in found ≡ kept.value = cc in (
        record {
          at = kept.at;
          there = subst (λ found. Contains (files_in es) (file_for dir allowed found kept.at)) (sym same)
              it.there;
          stays = ap (λ reads. is_current world reads kept.at) (sym it.own) ∙ stays;
        },
        tt,
      )
  kept_answers kept is false stays (Some found) value = cc
  kept_answers kept is false stays None value = (
    tt,
    λ file has same same_allowed.
        let own = (entry_found allowed dir es kept are.own is).own in
        let it = entry_is allowed dir es file are.differ has same same_allowed in
        let one : it.kept ≡ kept = cc (it.found, is) in
        ap (λ reads. is_current world reads file.at) (ap reads_of same ∙ sym own)
        ∙ ap (is_current world kept.reads) (sym it.at ∙ ap (λ k. k.at) one) ∙ stays,
  )

  answers : (kept : Option Kept) → lookup (is_at dir allowed) es ≡ kept → (result : Option A)
      → option_map found_in result ≡ option_and_then (value_kept world) kept → Answers result
  answers None none (Some found) value = cc
  answers None none None value = (
    tt,
    λ file has same same_allowed.
        let it = entry_is allowed dir es file are.differ has same same_allowed in cc (it.found, none),
  )
  answers (Some kept) is result value = kept_answers kept is (is_current world kept.reads kept.at) refl result value

  pub current_answers : (result : Option A)
      → option_map found_in result ≡ option_and_then (value_kept world) (lookup (is_at dir allowed) es)
      → Answers result
  current_answers result value = answers (lookup (is_at dir allowed) es) refl result value
