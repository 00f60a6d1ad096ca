use Rattle.std.proofs.Common.{◌∙◌, ap, not, rules}
use Rattle.std.specs.FinMap.{retain_keys}
use Rattle.std.proofs.lemmas.Map.Made.{filter_same_pairs}
use Rattle.hc_world.specs.Edits.{is_within}
use Rattle.hc_texts.proofs.Entries.{retained}
use Rattle.hc_texts.proofs.texts.KeptTexts.forget.Goals as goal

pub returns : goal.returns
returns c =
    let path = c.args.path.now in
    retained c.self.inside.by_path.entries c.retain.new.self.entries (λ other. not (is_within path other))
    (filter_same_pairs _ (λ e. not (is_within path e.0.items)) _ (λ k v b w f' t. search rules) _ _
    c.retain.ensures.filtered)
    ∙ ap (λ texts. retain_keys texts (λ other. not (is_within path other))) c.self.view_is
