-- The names that the proofs of this crate cite, passed on from one place. Declares nothing.
pub use Rattle.std.proofs.Common.{◌≡◌, ℕ, zero, suc, ◌+◌, ◌-◌, ◌<◌, ◌≤◌, ◌==◌, true}
pub use Rattle.std.proofs.Common.{false, List, [], ◌∷◌, ◌++◌, length, drop, refl, sym, ap, ◌∙◌}
pub use Rattle.std.proofs.Common.{append_assoc, true≢false, arith, eqb-true}
pub use Rattle.std.proofs.lemmas.Bool.{false_from_ne_true}
pub use Rattle.std.proofs.lemmas.List.{map-append}
pub use Rattle.std.specs.Prelude.{map}
pub use Rattle.hc_expr.specs.Tokens.{Token, closes, past_blanks, token_at, tokens_in}
pub use Rattle.hc_expr.specs.TokenViews.{token_view, token_found}
