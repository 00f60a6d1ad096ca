-- The states of named cells, as they are met with what they always hold.
use Rattle.hc_cert.proofs.Common.{◌≡◌, ◌∙◌, ℕ, List, Bool, true, false, ◌&&◌, ◌||◌, not, Some, None}
use Rattle.hc_cert.proofs.Common.{refl, sym, ap, list_all, Sets, holds, of_set, set_at, Automaton, accepts, Accepts}
use Rattle.hc_cert.proofs.Common.{TextSet, Cut, cell_of, Slot, same_slot}
use Rattle.hc_invariant.specs.declared.cut.Cut.TheVariants as cut
use Rattle.std.proofs.Math.Path.{fun_ext}
use Rattle.std.specs.Prelude.{cond, nat_lt}
use Rattle.hc_cells.proofs.Places.{same_holds}
use Rattle.hc_cells.specs.Cells.{Restricts}
use Rattle.hc_base.specs.Paths.{is_clean}
use Rattle.hc_plan.proofs.Made.{is_text, text_is}
use Rattle.hc_abs_pass.specs.Walks.{is_empty}
use Rattle.hc_cert.specs.Cells.{cell_at, is_end}
use Rattle.hc_cert.specs.Coded.{before_pass, met_at, met_by}

abbrev bytes_of : List ℕ → Bool
bytes_of text = list_all (λ b. nat_lt b 256) text

-- ---- one slot

alone : (b : Bool) → b ≡ (b && true)
alone true = refl
alone false = refl

pub met_is : (sets made : Sets) (slot : Slot) (set : Automaton) (own : TextSet) → Accepts set own
    → Restricts sets slot (accepts set) made → cell_of made ≡ met_at slot own (cell_of sets)
met_is sets made slot set own are r = fun_ext (λ at. fun_ext (λ text. by at text (bytes_of text) refl))
  where
    put_by : (at : Slot) (text : List ℕ) → bytes_of text ≡ true → (same : Bool) → same_slot slot at ≡ same
        → of_set (cond same (Some r.own) (set_at sets at)) text ≡ (holds sets at text && (not same || own text))
    put_by at text bytes true is =
        r.both text (is_text text bytes) ∙ ap (λ has. has && accepts set text) (same_holds sets slot at is text)
        ∙ ap (λ in_set. holds sets at text && in_set) (are text (is_text text bytes))
    put_by at text bytes false is = alone (holds sets at text)

    by : (at : Slot) (text : List ℕ) (bytes : Bool) → bytes_of text ≡ bytes
        → (bytes && holds made at text) ≡ ((bytes && holds sets at text) && (not (same_slot slot at) || own text))
    by at text true is =
        ap (λ found. of_set found text) (r.puts at) ∙ put_by at text is (same_slot slot at) refl
    by at text false is = refl

-- ---- by another slot

pub other_set : (sets : Sets) (other : Slot) (set : Automaton) → set_at sets other ≡ Some set
    → Accepts set (cell_of sets other)
other_set sets other set is text bytes =
    ap (λ found. of_set found text) (sym is) ∙ ap (λ of. of && holds sets other text) (sym (text_is text bytes))

pub none_met : (sets : Sets) (slot other : Slot) → set_at sets other ≡ None
    → cell_of sets ≡ met_at slot (cell_of sets other) (cell_of sets)
none_met sets slot other none = fun_ext (λ at. fun_ext (λ text. by at text (bytes_of text)
    (ap (λ found. of_set found text) none)))
  where
    both : (has same : Bool) → has ≡ (has && (not same || true))
    both true true = refl
    both true false = refl
    both false same = refl

    by : (at : Slot) (text : List ℕ) (bytes : Bool) → holds sets other text ≡ true
        → (bytes && holds sets at text)
        ≡ ((bytes && holds sets at text) && (not (same_slot slot at) || (bytes && holds sets other text)))
    by at text true any =
        both (holds sets at text) (same_slot slot at)
        ∙ ap (λ more. holds sets at text && (not (same_slot slot at) || more)) (sym any)
    by at text false any = refl

-- ---- all slots

last : (b h c : Bool) → (((b && h) && c) && true) ≡ (b && (h && c))
last false h c = refl
last true false c = refl
last true true false = refl
last true true true = refl

first : (b h c : Bool) → (((b && h) && true) && c) ≡ (b && (h && c))
first false h c = refl
first true false c = refl
first true true false = refl
first true true true = refl

path_pass : (b p t c : Bool)
    → (((((((b && p) && c) && true) && (((b && t) && true) && true)) && true) && true) && true)
    ≡ (b && ((p && t) && c))
path_pass false p t c = refl
path_pass true false t c = refl
path_pass true true false false = refl
path_pass true true false true = refl
path_pass true true true false = refl
path_pass true true true true = refl

text_pass : (b p t c : Bool)
    → (((((((b && t) && true) && true) && true)
    && ((((b && p) && c) && true) && (((b && t) && true) && true))) && true) && true)
    ≡ (b && ((p && t) && c))
text_pass false p t c = refl
text_pass true false false c = refl
text_pass true false true c = refl
text_pass true true false c = refl
text_pass true true true false = refl
text_pass true true true true = refl

name_pass : (b h c : Bool) → (((((((b && h) && true) && true) && true) && true) && c) && true) ≡ (b && (h && c))
name_pass false h c = refl
name_pass true false c = refl
name_pass true true false = refl
name_pass true true true = refl

info_pass : (b h c : Bool) → (((((((b && h) && true) && true) && true) && true) && true) && c) ≡ (b && (h && c))
info_pass false h c = refl
info_pass true false c = refl
info_pass true true false = refl
info_pass true true true = refl

end_pass : (b h c : Bool) → (((((((b && h) && true) && c) && true) && true) && true) && true) ≡ (b && (h && c))
end_pass false h c = refl
end_pass true false c = refl
end_pass true true false = refl
end_pass true true true = refl

-- Path and end are what they always are.
abbrev pub always_met : Sets → Slot → TextSet
always_met sets = met_at Slot.End is_end (met_at Slot.Path is_clean (cell_of sets))

module _ (sets : Sets) (text : List ℕ) where
  abbrev b : Bool
  b = bytes_of text

  abbrev has : Slot → Bool
  has slot = holds sets slot text

  round_slot : (at : Slot) → always_met sets at text ≡ cell_at cut.Server sets at text
  round_slot Slot.Path = last b (has Slot.Path) (is_clean text)
  round_slot Slot.End = first b (has Slot.End) (is_end text)
  round_slot Slot.Origin = last b (has Slot.Origin) true
  round_slot Slot.Query = last b (has Slot.Query) true
  round_slot Slot.Text = last b (has Slot.Text) true
  round_slot Slot.Name = last b (has Slot.Name) true
  round_slot Slot.Info = last b (has Slot.Info) true
  round_slot Slot.Method = last b (has Slot.Method) true
  round_slot Slot.Request = last b (has Slot.Request) true
  round_slot (Slot.Env name) = last b (has (Slot.Env name)) true
  round_slot (Slot.Header name) = last b (has (Slot.Header name)) true
  round_slot Slot.FirstQuery = last b (has Slot.FirstQuery) true
  round_slot Slot.Location = last b (has Slot.Location) true

  pass_slot : (at : Slot) → before_pass (always_met sets) at text ≡ cell_at cut.Pass sets at text
  pass_slot Slot.Path = path_pass b (has Slot.Path) (has Slot.Text) (is_clean text)
  pass_slot Slot.Text = text_pass b (has Slot.Path) (has Slot.Text) (is_clean text)
  pass_slot Slot.Name = name_pass b (has Slot.Name) (is_empty text)
  pass_slot Slot.Info = info_pass b (has Slot.Info) (is_empty text)
  pass_slot Slot.End = end_pass b (has Slot.End) (is_end text)
  pass_slot Slot.Origin = end_pass b (has Slot.Origin) true
  pass_slot Slot.Query = end_pass b (has Slot.Query) true
  pass_slot Slot.Method = end_pass b (has Slot.Method) true
  pass_slot Slot.Request = end_pass b (has Slot.Request) true
  pass_slot (Slot.Env name) = end_pass b (has (Slot.Env name)) true
  pass_slot (Slot.Header name) = end_pass b (has (Slot.Header name)) true
  pass_slot Slot.FirstQuery = end_pass b (has Slot.FirstQuery) true
  pass_slot Slot.Location = end_pass b (has Slot.Location) true

  dir_slot : (dir : List ℕ) (at : Slot) → cell_at cut.Server sets at text ≡ cell_at (cut.Dir dir) sets at text
  dir_slot dir Slot.Path = refl
  dir_slot dir Slot.End = refl
  dir_slot dir Slot.Origin = refl
  dir_slot dir Slot.Query = refl
  dir_slot dir Slot.Text = refl
  dir_slot dir Slot.Name = refl
  dir_slot dir Slot.Info = refl
  dir_slot dir Slot.Method = refl
  dir_slot dir Slot.Request = refl
  dir_slot dir (Slot.Env name) = refl
  dir_slot dir (Slot.Header name) = refl
  dir_slot dir Slot.FirstQuery = refl
  dir_slot dir Slot.Location = refl

-- So it is at each cut.
pub cut_is : (at : Cut) (sets : Sets) → met_by at (always_met sets) ≡ cell_at at sets
cut_is cut.Pass sets = fun_ext (λ at. fun_ext (λ text. pass_slot sets text at))
cut_is cut.Server sets = fun_ext (λ at. fun_ext (λ text. round_slot sets text at))
cut_is (cut.Dir dir) sets =
    fun_ext (λ at. fun_ext (λ text. round_slot sets text at ∙ dir_slot sets text dir at))
