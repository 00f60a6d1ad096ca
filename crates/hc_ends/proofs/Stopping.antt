-- A request breaks the claim where its chain does.
use Rattle.std.proofs.Common.{◌≡◌, ◌∙◌, ℕ, zero, suc, ◌+◌, ◌-◌, List, [], ◌∷◌, length, true, refl, sym}
use Rattle.std.proofs.Common.{ap, subst, arith}
use Rattle.hc_follow.specs.Chains.{AreSteps, Halts, IsChain}
use Rattle.hc_follow.specs.Next.{next_request}
use Rattle.hc_follow.specs.declared.chain.Chain.{Chain}
use Rattle.hc_follow.specs.declared.chain.TheConstants.{MOST_STEPS}
use Rattle.hc_follow.specs.declared.next.Next.{Next}
use Rattle.hc_follow.specs.declared.next.Next.TheVariants.{Go, Halt}
use Rattle.hc_model.specs.declared.outcome.Outcome.{Outcome}
use Rattle.hc_model.specs.declared.request.Request.{Request}
use Rattle.hc_serve.specs.Request.{received}
use Rattle.hc_ends.specs.Asking.{Site}
use Rattle.hc_ends.specs.Breaking.{breaks, breaks_by, broken_by, broken_then, is_broken}
unfoldable use Rattle.hc_ends.specs.Breaking.{broken_in}

module _ (site : Site) where
  abbrev last_of : Request → Outcome
  last_of = received site.world site.config

  pub with_none : (request : Request) → broken_in site zero request ≡ broken_by site (λ next. true) request
  unfolding broken_in
  with_none request = refl

  pub with_more : (left : ℕ) (request : Request)
      → broken_in site (suc left) request ≡ broken_by site (broken_in site left) request
  unfolding broken_in
  with_more left request = refl

  -- From the first request to the one to which these steps lead.
  stepped : (request : Request) (before : List Request) (at : Request) (left : ℕ)
      → AreSteps site.world site.config site.hosts request before at
      → broken_in site (length before + left) request ≡ broken_in site left at
  stepped request [] at left steps =
      let count : 0 + left ≡ left = omega arith in
      ap (λ count. broken_in site count request) count ∙ ap (broken_in site left) (sym steps)
  stepped request (last ∷ earlier) at left steps =
      let count : length (last ∷ earlier) + left ≡ length earlier + suc left = omega arith in
      ap (λ count. broken_in site count request) count ∙ stepped request earlier last (suc left) steps.0
      ∙ with_more left last ∙ ap (broken_then (broken_in site left) (last_of last)) steps.1

  -- At the last one.
  halted : (at : Request) (steps left : ℕ) (chain : Chain) → steps + left ≡ MOST_STEPS
      → last_of at ≡ chain.last.outcome → (next : Next) → next_request site.hosts at (last_of at) ≡ next
      → Halts site.world site.config site.hosts steps next chain.stop → broken_in site left at ≡ breaks chain
  halted at steps zero chain all same (Halt stop) is said =
      with_none at ∙ ap (broken_then (λ next. true) (last_of at)) is
      ∙ ap (breaks_by stop) same ∙ ap (λ stop. breaks_by stop chain.last.outcome) (sym said)
  halted at steps (suc left) chain all same (Halt stop) is said =
      with_more left at ∙ ap (broken_then (broken_in site left) (last_of at)) is
      ∙ ap (breaks_by stop) same ∙ ap (λ stop. breaks_by stop chain.last.outcome) (sym said)
  halted at steps zero chain all same (Go next) is said =
      with_none at ∙ ap (broken_then (λ next. true) (last_of at)) is
      ∙ ap (λ stop. breaks_by stop chain.last.outcome) (sym said.0)
  halted at steps (suc left) chain all same (Go next) is said = absurd (omega (arith, all, said.1))

  pub chain_breaks : (request : Request) (chain : Chain) → IsChain site.world site.config site.hosts request chain
      → is_broken site request ≡ breaks chain
  chain_breaks request chain is =
      let left = MOST_STEPS - length is.before in
      let all : length is.before + left ≡ MOST_STEPS = omega (arith, is.count, is.few) in
      ap (λ count. broken_in site count request) (sym all) ∙ stepped request is.before is.at left is.steps
      ∙ halted is.at chain.steps left chain (ap (λ count. count + left) (sym is.count) ∙ all) (sym is.last.outcome)
      (next_request site.hosts is.at (last_of is.at)) refl
      (subst (λ own. Halts site.world site.config site.hosts chain.steps (next_request site.hosts is.at own) chain.stop)
      is.last.outcome is.halts)
