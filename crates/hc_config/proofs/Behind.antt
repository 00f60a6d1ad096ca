-- What follows an entry, one entry after another.
use Rattle.std.proofs.Common.{◌≡◌, ℕ, true, false, List, ◌∷◌, drop, refl, ap, ◌∙◌}
use Rattle.hc_model.specs.declared.entry.Entry.{Entry}
use Rattle.hc_config.specs.Rewrites.{ends_look, is_rule, rule_follows}

module _ (entries rest : List Entry) (at : ℕ) (entry : Entry) (is : drop at entries ≡ entry ∷ rest) where
  pub followed_here : is_rule entry ≡ true → rule_follows (drop at entries) ≡ true
  followed_here here = ap rule_follows is ∙ rw here refl

  pub follows_more : is_rule entry ≡ false → ends_look entry ≡ false → rule_follows (drop at entries)
      ≡ rule_follows rest
  follows_more here more = ap rule_follows is ∙ rw (here, more) refl

  pub follows_none : is_rule entry ≡ false → ends_look entry ≡ true → rule_follows (drop at entries) ≡ false
  follows_none here none = ap rule_follows is ∙ rw (here, none) refl

pub ruleset following = (followed_here, follows_more, follows_none)
