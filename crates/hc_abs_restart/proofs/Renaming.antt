-- The slots at the start of the pass that follows.
use Rattle.hc_abs_restart.proofs.Common.{◌≡◌, ◌∙◌, ℕ, List, [], ◌∷◌, ◌++◌, length, drop, Bool, true, false, not, ◌&&◌}
use Rattle.hc_abs_restart.proofs.Common.{◌||◌, if◌then◌else◌, Option, None, Some, refl, sym, ap, subst, true≢false}
use Rattle.hc_abs_restart.proofs.Common.{fun_ext, bytes_eq, Automaton, Accepts, IsText, TextSet}
use Rattle.hc_abs_restart.proofs.Common.{and_left, is_text, cell_of, set_in, Slot, any, of_bytes, Tied}
use Rattle.std.specs.Cmp.Lexicographic.{bytes_decides}
use Rattle.std.specs.List.{starts_with}
use Rattle.std.specs.Prelude.{codes, nat_eq}
use Rattle.std.proofs.lemmas.List.Folds.{list_any-append}
use Rattle.hc_cells.proofs.Places.{slots_equal}
use Rattle.hc_cells.proofs.Slots.{same_slots}
use Rattle.hc_cells.specs.Cells.{LacksVariables, Puts, Sets, holds, of_set}
use Rattle.hc_dfa.specs.Singles.{single}
use Rattle.hc_plan.proofs.Slots.{query_tied}
use Rattle.hc_plan.proofs.Stores.{put_in}
use Rattle.hc_plan.specs.Branches.{source_set}
use Rattle.hc_plan.specs.Plan.{from_slot, from_text}
use Rattle.hc_plan.specs.Slots.{Ties, put, same_slot}
use Rattle.hc_rw_eval.specs.Directories.{behind_front}
use Rattle.hc_abs_pass.specs.Restarting.{at_start, front, looked_at, pass_source, status_name, variable_source}
use Rattle.hc_abs_restart.proofs.Sets.{any_or, slot_set, text_set}
use Rattle.hc_abs_restart.specs.Restarted.{is_among}
use Rattle.hc_abs_restart.specs.Starting.{IsRenamed, IsSource, IsStarted, LooksAt, emptied, started}

-- ---- sources

-- Each source of a variable is of bytes.
variable_bytes : (sets : Sets) (name x : List ℕ) → source_set (cell_of sets) (variable_source name) x ≡ true
    → IsText x
variable_bytes sets name x = by (bytes_eq name status_name) (starts_with nat_eq name front)
  where
    of_text : (own : List ℕ) → IsText own → bytes_eq own x ≡ true → IsText x
    of_text own bytes same = subst IsText ((bytes_decides own x).0 same) bytes

    by : (is begins : Bool) → source_set (cell_of sets) (if is then from_text (codes "200")
        else (if begins then from_slot (Slot.Env (drop (length front) name)) else from_text [])) x ≡ true
        → IsText x
    by true begins there = of_text (codes "200") (is_text (codes "200") refl) there
    by false true there = is_text x (and_left _ (holds sets (Slot.Env (drop (length front) name)) x) there)
    by false false there = of_text [] tt there

module _ (sets : Sets) (name : List ℕ) where
  pub status_is : (set : Automaton) → bytes_eq name status_name ≡ true → Accepts set (single (codes "200"))
      → IsSource sets (variable_source name) (Some set)
  status_is set is of =
      text_set (codes "200") set (is_text (codes "200") refl) of
      ∙ ap (λ is. source_set (cell_of sets) (if is then from_text (codes "200")
      else (if starts_with nat_eq name front then from_slot (Slot.Env (drop (length front) name)) else from_text [])))
      (sym is)

  not_begun : None ≡ behind_front front name → starts_with nat_eq name front ≡ false
  not_begun none = by (starts_with nat_eq name front) none
    where
      by : (is : Bool) → None ≡ (if is then Some (drop (length front) name) else None) → is ≡ false
      by true none = absurd (let other = none in cc)
      by false none = refl

  pub gone : (set : Automaton) → bytes_eq name status_name ≡ false → None ≡ behind_front front name
      → Accepts set (single []) → IsSource sets (variable_source name) (Some set)
  gone set isnt none of =
      text_set [] set tt of
      ∙ (λ i. source_set (cell_of sets) (if sym isnt i then from_text (codes "200")
      else (if sym (not_begun none) i then from_slot (Slot.Env (drop (length front) name)) else from_text [])))

-- ---- slots that are no variables

pub file_emptied : (sets named informed located : Sets) (empty : Automaton) → Accepts empty (single [])
    → Puts sets Slot.Name empty named → Puts named Slot.Info empty informed → Puts informed Slot.Location empty located
    → cell_of located ≡ emptied (cell_of sets)
file_emptied sets named informed located empty is name info location =
    put_in informed located Slot.Location empty location
    ∙ ap (put Slot.Location (set_in empty)) (put_in named informed Slot.Info empty info
    ∙ ap (put Slot.Info (set_in empty)) (put_in sets named Slot.Name empty name))
    ∙ (λ i. put Slot.Location (text_set [] empty tt is i) (put Slot.Info (text_set [] empty tt is i)
    (put Slot.Name (text_set [] empty tt is i) (cell_of sets))))

module _ (sets bare rewritten made : Sets) (paths : Automaton) (lacks : LacksVariables sets bare)
    (of_paths : Accepts paths (holds sets Slot.Path)) (text : Puts bare Slot.Text paths rewritten)
    (is : cell_of made ≡ emptied (cell_of rewritten)) where
  abbrev moved : Slot → TextSet
  moved = put Slot.Text (cell_of sets Slot.Path) (cell_of bare)

  all_moved : cell_of made ≡ emptied moved
  all_moved =
      is ∙ ap emptied (put_in bare rewritten Slot.Text paths text
      ∙ (λ i. put Slot.Text (slot_set sets Slot.Path paths of_paths i) (cell_of bare)))

  each_moved : (slot : Slot) → emptied moved slot ≡ started sets (is_among []) slot
  each_moved (Slot.Env name) =
      ap (λ found. of_bytes (of_set found)) (lacks (Slot.Env name))
      ∙ sym (fun_ext (any_or (source_set (cell_of sets) (variable_source name)) (variable_bytes sets name)))
  each_moved Slot.Text = refl
  each_moved Slot.Name = refl
  each_moved Slot.Info = refl
  each_moved Slot.Location = refl
  each_moved Slot.Origin = ap (λ found. of_bytes (of_set found)) (lacks Slot.Origin)
  each_moved Slot.Path = ap (λ found. of_bytes (of_set found)) (lacks Slot.Path)
  each_moved Slot.Query = ap (λ found. of_bytes (of_set found)) (lacks Slot.Query)
  each_moved Slot.FirstQuery = ap (λ found. of_bytes (of_set found)) (lacks Slot.FirstQuery)
  each_moved Slot.End = ap (λ found. of_bytes (of_set found)) (lacks Slot.End)
  each_moved Slot.Method = ap (λ found. of_bytes (of_set found)) (lacks Slot.Method)
  each_moved Slot.Request = ap (λ found. of_bytes (of_set found)) (lacks Slot.Request)
  each_moved (Slot.Header name) = ap (λ found. of_bytes (of_set found)) (lacks (Slot.Header name))

  pub none_looked_at : IsStarted sets [] made
  none_looked_at slot = ap (λ cell. cell slot) all_moved ∙ each_moved slot

-- ---- one more variable

module _ (sets : Sets) (name : List ℕ) (cell : Sets) where
  more : (names : List (List ℕ)) (other : List ℕ)
      → is_among (names ++ name ∷ []) other ≡ (is_among names other || (bytes_eq other name || false))
  more names other = list_any-append (bytes_eq other) names (name ∷ [])

  own_name : bytes_eq name name ≡ true
  own_name = (bytes_decides name name).1 refl

  either_way : (is : Bool) → (is || (true || false)) ≡ true
  either_way true = refl
  either_way false = refl

  alone : (is : Bool) → (is || (false || false)) ≡ is
  alone true = refl
  alone false = refl

  -- The variable has the set of its source, and all others are as they were.
  pub one_more : (made : Sets) (found : Option Automaton) → IsSource sets (variable_source name) found
      → cell_of made ≡ put (Slot.Env name) (of_bytes (of_set found)) (cell_of cell) → LooksAt sets name cell made
  one_more made found source is names are slot = ap (λ cell. cell slot) is ∙ by slot
    where
      at_name : (other : List ℕ) (same : Bool) → same_slot (Slot.Env name) (Slot.Env other) ≡ same
          → (if same then of_bytes (of_set found) else cell_of cell (Slot.Env other))
          ≡ started sets (is_among (names ++ name ∷ [])) (Slot.Env other)
      at_name other true same =
          subst (λ slot. of_bytes (of_set found) ≡ started sets (is_among (names ++ name ∷ [])) slot)
          (same_slots (Slot.Env name) (Slot.Env other) same)
          (source
          ∙ (λ i x. (not (sym (more names name ∙ ap (λ own. is_among names name || (own || false)) own_name
          ∙ either_way (is_among names name)) i) && of_bytes any x) || source_set (cell_of sets) (variable_source name) x))
      at_name other false apart =
          are (Slot.Env other)
          ∙ (λ i x. (not (sym (more names other ∙ ap (λ own. is_among names other || (own || false)) (differs other apart)
          ∙ alone (is_among names other)) i) && of_bytes any x) || source_set (cell_of sets) (variable_source other) x)
        where
          differs : (other : List ℕ) → same_slot (Slot.Env name) (Slot.Env other) ≡ false → bytes_eq other name ≡ false
          differs other apart = decide (bytes_eq other name) refl
            where
              decide : (is : Bool) → bytes_eq other name ≡ is → is ≡ false
              decide true is = absurd (true≢false (sym (slots_equal.refl (Slot.Env name))
                  ∙ ap (λ other. same_slot (Slot.Env name) (Slot.Env other)) (sym ((bytes_decides other name).0 is))
                  ∙ apart))
              decide false is = refl

      by : (slot : Slot) → put (Slot.Env name) (of_bytes (of_set found)) (cell_of cell) slot
          ≡ started sets (is_among (names ++ name ∷ [])) slot
      by (Slot.Env other) = at_name other (same_slot (Slot.Env name) (Slot.Env other)) refl
      by Slot.Text = are Slot.Text
      by Slot.Name = are Slot.Name
      by Slot.Info = are Slot.Info
      by Slot.Location = are Slot.Location
      by Slot.FirstQuery = are Slot.FirstQuery
      by Slot.Origin = are Slot.Origin
      by Slot.Path = are Slot.Path
      by Slot.Query = are Slot.Query
      by Slot.End = are Slot.End
      by Slot.Method = are Slot.Method
      by Slot.Request = are Slot.Request
      by (Slot.Header other) = are (Slot.Header other)

  pub value_put : (made : Sets) (set : Automaton) → IsSource sets (variable_source name) (Some set)
      → Puts cell (Slot.Env name) set made → LooksAt sets name cell made
  value_put made set source puts = one_more made (Some set) source (put_in cell made (Slot.Env name) set puts)

  -- Any value: nothing is stored.
  pub any_value : IsSource sets (variable_source name) None → LooksAt sets name cell cell
  any_value source names are = one_more cell None source (fun_ext (λ slot. by slot (same_slot (Slot.Env name) slot) refl))
      names are
    where
      all : (is : Bool) (x : List ℕ) → ((not is && of_bytes any x) || of_bytes any x) ≡ of_bytes any x
      all true x = refl
      all false x = twice (of_bytes any x)
        where
          twice : (is : Bool) → (is || is) ≡ is
          twice true = refl
          twice false = refl

      by : (slot : Slot) (same : Bool) → same_slot (Slot.Env name) slot ≡ same
          → cell_of cell slot ≡ (if same then of_bytes (of_set None) else cell_of cell slot)
      by slot true same =
          subst (λ slot. cell_of cell slot ≡ of_bytes (of_set None)) (same_slots (Slot.Env name) slot same)
          (are (Slot.Env name)
          ∙ (λ i x. (not (is_among names name) && of_bytes any x) || sym source i x)
          ∙ fun_ext (all (is_among names name)))
      by slot false apart = refl

-- ---- the state

abbrev pub ties_from : Bool → Ties
ties_from query = record at_start { query_first = query }

pub renamed_fits : (before : Tied) (names : List (List ℕ)) (made : Tied) → IsStarted before.cell names made.cell
    → made.ties ≡ ties_from before.ties.query_first → IsRenamed before names made
renamed_fits before names made are ties client state ends = record {
  cell =
      (λ i slot x. (not (looked_at (is_among names) slot) && of_bytes any x)
      || source_set (ends.cell i) (pass_source slot) x)
      ∙ sym (fun_ext are);
  ties = ap ties_from (query_tied state.ties ∙ (λ i. (ends.ties i).query_first)) ∙ sym ties;
  given = ends.given;
  printed = ends.printed;
}
