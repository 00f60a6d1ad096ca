-- Where bytes lead from all states.
use Rattle.hc_dfa.proofs.Common.{◌≡◌, ℕ, ◌<◌, List, length, slice_index, slice_get, Some, sym}
use Rattle.hc_dfa.proofs.Common.{◌∙◌, ap, Automaton, Classing, AreClasses, AreColumns, IsColumn}
use Rattle.hc_dfa.proofs.Common.{Tells, TellsByNumber, class_of}
use Rattle.hc_dfa.proofs.Tables.{stands_for}

-- The number is that of the column of a byte.
abbrev pub IsColumnOf : Automaton → List ℕ → List (List ℕ) → ℕ → ℕ → Type 0
IsColumnOf a bytes columns k number = (column : List ℕ) × (slice_get columns number ≡ Some column)
    × IsColumn a (slice_index bytes k) column

pub columns_made : (a : Automaton) (bytes numbers : List ℕ) (columns : List (List ℕ))
    → length numbers ≡ length bytes
    → ((k : ℕ) → k < length bytes → IsColumnOf a bytes columns k (slice_index numbers k))
    → AreColumns a bytes numbers
columns_made a bytes numbers columns len each = record {
  len = len;
  same = λ k j s kb jb e sb.
      sym ((each k kb).2.each s sb)
      ∙ (ap (λ (v : List ℕ). slice_index v s) (one k j kb jb e) ∙ (each j jb).2.each s sb);
}
  where
    one : (k j : ℕ) (kb : k < length bytes) (jb : j < length bytes)
        → slice_index numbers k ≡ slice_index numbers j → (each k kb).0 ≡ (each j jb).0
    one k j kb jb e = let x = (each k kb).1 in let y = (each j jb).1 in cc

pub columns_tell : (c : Classing) (a : Automaton) (columns numbers : List ℕ) → AreClasses c → Tells c a
    → AreColumns a c.firsts columns
    → ((byte : ℕ) → byte < 256 → slice_index numbers byte ≡ slice_index columns (class_of c byte))
    → TellsByNumber numbers a
columns_tell c a columns numbers is tells are each b d bb db same s sb =
    sym (stands_for c a is tells s b sb bb)
    ∙ (are.same (class_of c b) (class_of c d) s (is.within b bb) (is.within d db)
    (sym (each b bb) ∙ (same ∙ each d db)) sb ∙ stands_for c a is tells s d sb db)
