-- The graph that merges slashes.
use Rattle.hc_pat_lang.proofs.Common.{◌≡◌, ℕ, ◌&&◌, Bool, List, [], ◌∷◌, true, false}
use Rattle.hc_pat_lang.proofs.Common.{if◌then◌else◌, Some}
use Rattle.hc_pat_lang.proofs.Common.{None, refl, sym, ◌∙◌, ap, arith, Automaton, next_state}
use Rattle.hc_pat_lang.proofs.Common.{accepts_from, accepts, IsText, AcceptsOnly, IsMerged}
use Rattle.hc_base.specs.Paths.{is_slash, merge_slashes}
use Rattle.hc_pat_lang.proofs.Moving.{Keeps, each_way, led, read_before}
use Rattle.hc_dfa.specs.Graphs.{Way, AcceptsWays, IsChoice}
use Rattle.hc_dfa.specs.Graphs.Way.{ends}
use Rattle.hc_dfa.specs.declared.graphs.Choice.{Choice}
use Rattle.hc_dfa.specs.declared.graphs.Choice.TheVariants.{Byte, One, Other}
use Rattle.hc_pat_lang.specs.Graphs.{merged_graph, merged_moves}
use Rattle.hc_pat_lang.specs.declared.slashes.Behind.{Behind}

-- ---- merging from the front

-- What is left of a text where slashes behind a slash are passed over; whether a slash was read last.
abbrev merged_from : Bool → List ℕ → List ℕ
merged_from after [] = []
merged_from after (b ∷ bs) = if (after && is_slash b) then merged_from true bs else b ∷ merged_from (is_slash b) bs

merges_step : (b c : ℕ) (bs : List ℕ) → merge_slashes (c ∷ bs) ≡ c ∷ merged_from (is_slash c) bs
    → merge_slashes (b ∷ c ∷ bs) ≡ b ∷ merged_from (is_slash b) (c ∷ bs)
merges_step b c bs later = grind arith

merges_first : (b : ℕ) (bs : List ℕ) → merge_slashes (b ∷ bs) ≡ b ∷ merged_from (is_slash b) bs
merges_first b [] = refl
merges_first b (c ∷ bs) = merges_step b c bs (merges_first c bs)

merges : (text : List ℕ) → merge_slashes text ≡ merged_from false text
merges [] = refl
merges (b ∷ bs) = merges_first b bs

-- A byte in front is passed over, or is read.
past : (after : Bool) (byte : ℕ) (rest : List ℕ)
    → read_before (if (after && is_slash byte) then None else Some byte) (merged_from (is_slash byte) rest)
    ≡ merged_from after (byte ∷ rest)
past false byte rest = refl
past true byte rest = by_slash (is_slash byte)
  where
    by_slash : (slash : Bool) → read_before (if slash then None else Some byte) (merged_from slash rest)
        ≡ (if slash then merged_from true rest else byte ∷ merged_from slash rest)
    by_slash true = refl
    by_slash false = refl

-- ---- ways

module _ (a : Automaton) where
  record Original (behind : Behind) (text : List ℕ) : Type 0 where
    pub original : List ℕ
    pub bytes : IsText original
    pub member : accepts_from a behind.state original ≡ true
    pub merged : merged_from behind.slash original ≡ text

  keeps_merged : (behind : Behind) (choice : Choice) → IsChoice choice
      → Keeps Original behind (merged_moves a behind choice)
  keeps_merged behind (Byte byte) small = λ text later.
      record {
        original = byte ∷ later.original;
        bytes = (small, later.bytes);
        member = later.member;
        merged = sym (past behind.slash byte later.original) ∙ ap (read_before _) later.merged;
      }
  keeps_merged behind One is = tt
  keeps_merged behind Other is = tt

  from_original : (original : List ℕ) (behind : Behind) → IsText original
      → accepts_from a behind.state original ≡ true → Way (merged_graph a) behind
      (merged_from behind.slash original)
  from_original [] behind bytes member = ends member
  from_original (byte ∷ rest) behind bytes member =
      rw (← past behind.slash byte rest)
      (led _ _ (record { choice = Byte byte; is = bytes.0; move = refl })
      (from_original rest (record { state = next_state a behind.state byte; slash = is_slash byte }) bytes.1 member))

  pub merged_accepts : (made : Automaton) → AcceptsWays (merged_graph a) (record { state = 0; slash = false }) made
      → AcceptsOnly (IsMerged (accepts a)) made
  unfolding accepts
  merged_accepts made same text bytes = (
    (λ accepted.
        let from = each_way (merged_graph a) Original
        (λ behind final. record { original = []; bytes = tt; member = final; merged = refl }) keeps_merged
        ((same text bytes).0 accepted) in
        record {
          original = from.original;
          bytes = from.bytes;
          member = from.member;
          merged = merges from.original ∙ from.merged;
        }),
    (λ is.
        (same text bytes).1
        (rw (sym (merges is.original) ∙ is.merged) at
        (from_original is.original (record { state = 0; slash = false }) is.bytes is.member))),
  )
