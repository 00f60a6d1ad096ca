-- How ways are put behind each other.
use Rattle.hc_ways.proofs.Common.{◌≡◌, ℕ, Bool, true, false, List, [], ◌∷◌, if◌then◌else◌, refl, ap}
use Rattle.hc_ways.proofs.Common.{◌∙◌, flat_map, Way, Ways, stop, behind, either, stop_where, preferred}
use Rattle.std.proofs.lemmas.List.Concat.{flat_map-append}
use Rattle.std.proofs.Common.{append-nil}
use Rattle.hc_ways.proofs.Lists.{flat_map-flat_map}

-- Equal at each place, and so equal.
pub same_ways : {K : Type 0} (a b : Ways K) → ((at : ℕ) (held : K) → a at held ≡ b at held) → a ≡ b
same_ways a b same = λ i at held. same at held i

pub behind-stop : {K : Type 0} (next : Ways K) → behind stop next ≡ next
behind-stop next = same_ways _ _ (λ at held. append-nil (next at held))

stops : {K : Type 0} (ways : List (Way K)) → flat_map (λ way. stop way.end way.held) ways ≡ ways
stops [] = refl
stops (way ∷ ways) = ap (λ l. way ∷ l) (stops ways)

pub stop-behind : {K : Type 0} (first : Ways K) → behind first stop ≡ first
stop-behind first = same_ways _ _ (λ at held. stops (first at held))

pub behind-behind : {K : Type 0} (a b c : Ways K) → behind (behind a b) c ≡ behind a (behind b c)
behind-behind a b c = same_ways _ _ (λ at held. flat_map-flat_map _ _ (a at held))

pub behind-either : {K : Type 0} (a b c : Ways K) → behind (either a b) c ≡ either (behind a c) (behind b c)
behind-either a b c = same_ways _ _ (λ at held. flat_map-append _ (a at held) (b at held))

-- A turn more, and what is behind it, before or behind what is behind no turn.
abbrev pub turn_or_next : {K : Type 0} → Bool → Ways K → Ways K → Ways K
turn_or_next greedy turn next = if greedy then either turn next else either next turn

pub behind-preferred : {K : Type 0} (greedy : Bool) (turn next : Ways K) → behind (preferred greedy turn) next
    ≡ turn_or_next greedy (behind turn next) next
behind-preferred true turn next = behind-either turn stop next ∙ ap (either (behind turn next)) (behind-stop next)
behind-preferred false turn next = behind-either stop turn next ∙ ap (λ first. either first (behind turn next))
    (behind-stop next)
