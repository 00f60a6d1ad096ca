-- What was read of a template, before what is left of its text.
use Rattle.std.specs.Prelude.{◌≡◌, ℕ, ◌-◌, ◌==◌, ◌<◌, Bool, List, [], ◌∷◌, ◌++◌, length}
use Rattle.std.specs.Prelude.{drop, if◌then◌else◌}
use Rattle.std.specs.Prelude.{Option, Some, None, option_map, Result, Ok, Err}
use Rattle.std.specs.Borrow.{Bor}
use Rattle.hc_base.specs.Bytes.{brace_open}
use Rattle.hc_base.specs.Rules.{rule}
use Rattle.hc_base.specs.declared.codes.TheConstants.{UNSUPPORTED_VARIABLE}
use Rattle.hc_base.specs.declared.fault.AtByte.{AtByte}
use Rattle.hc_base.specs.declared.fault.Fault.{Fault}
use Rattle.hc_base.specs.declared.fault.Fault.TheVariants.{NoMemory, Refused}
use Rattle.hc_model.specs.declared.template.Piece.{Piece}
use Rattle.hc_model.specs.declared.template.Piece.TheVariants.{CondGroup, Group, Lookup}
use Rattle.hc_template.specs.Pieces.{with_byte}
use Rattle.hc_template.specs.Reading.{Asked, Inner, Part, Sign, byte, ends_fallback, ends_key, inner_behind, name_part}
use Rattle.hc_template.specs.Reading.{piece, refused, template, unsupported, with_part}
use Rattle.hc_template.specs.declared.front.Front.{Front}
use Rattle.hc_template.specs.declared.front.Front.TheVariants as front
use Rattle.hc_template.specs.declared.front.Sign as code_front
use Rattle.hc_template.specs.declared.inner.Ends.{Ends}
use Rattle.hc_template.specs.declared.inner.Ends.TheVariants.{Fallback, Key}
use Rattle.hc_template.specs.declared.inner.Inner as code_inner
use Rattle.hc_template.specs.declared.lookup.Asked as code_asked
use Rattle.hc_template.specs.declared.lookup.Lookup as code_lookup
use Rattle.hc_template.specs.declared.pieces.Pieces.{Pieces}
use Rattle.hc_template.specs.declared.signs.Names.{Names}
use Rattle.hc_template.specs.declared.signs.Names.TheVariants.{NoName}
use Rattle.hc_template.specs.declared.signs.Signs.{Signs}

-- The bytes before the first such byte.
abbrev pub up_to : ℕ → List ℕ → Option (List ℕ)
up_to end [] = None
up_to end (b ∷ bs) = if b == end then Some [] else option_map (λ front. b ∷ front) (up_to end bs)

abbrev pub without_names : Signs → Signs
without_names signs =
    record {
      groups = signs.groups;
      conditions = signs.conditions;
      names = NoName;
      lookups = signs.lookups;
      escapes = signs.escapes;
    }

-- ---- the sign at a place

-- The part that a sign stands for, and what follows the sign.
pub record Cut : Type 0 where
  pub part : Part
  pub behind : List ℕ

abbrev pub cut : Sign → List ℕ → Cut
cut sign rest = record { part = sign.part; behind = drop (sign.length - 1) rest }

-- Inside a look-up.
abbrev pub part_of : Names → Front → Part
part_of names (front.Byte b) = byte b
part_of names (front.Group number) = piece (Group number)
part_of names (front.Condition number) = piece (CondGroup number)
part_of names (front.Name name) = name_part names name.now
part_of names front.Braced = unsupported

-- Where this is what begins with `${`.
abbrev pub cut_of : (List ℕ → Sign) → Names → Front → List ℕ → Cut
cut_of braced names front.Braced behind = cut (braced behind) (brace_open ∷ behind)
cut_of braced names other behind = record { part = part_of names other; behind = behind }

-- The signs read a text as the others do.
pub record Alike (signs others : Signs) (text : List ℕ) : Type 0 where
  pub whole : template signs text ≡ template others text
  pub inside : (ends : ℕ → Bool) → inner_behind ends signs 0 text ≡ inner_behind ends others 0 text

-- A sign of the code is this one, and the signs that are left read what follows as before.
pub record IsCut (signs : Signs) (sign : code_front.Sign) (wanted : Cut) (braced : List ℕ → Sign) : Type 0 where
  pub is : cut_of braced signs.names sign.front sign.behind.now ≡ wanted
  pub left : Alike sign.signs signs wanted.behind

-- The same whatever begins with `${`.
abbrev pub Cuts : Signs → code_front.Sign → ((List ℕ → Sign) → Sign) → List ℕ → Type 0
Cuts signs sign wanted rest = (braced : List ℕ → Sign) → IsCut signs sign (cut (wanted braced) rest) braced

-- What stands first in a text, and the signs that are left.
pub record Begins (signs left : Signs) (text : List ℕ) (first : Cut) : Type 0 where
  pub read : template signs text ≡ with_part first.part (template left first.behind)
  pub shorter : length first.behind < length text

-- ---- what was read

-- Bytes before pieces.
abbrev pub with_run : List ℕ → List Piece → List Piece
with_run [] pieces = pieces
with_run (b ∷ bs) pieces = with_byte b (with_run bs pieces)

-- Before these pieces.
abbrev pub whole : Pieces → List Piece → List Piece
whole read pieces = read.done ++ with_run read.run.items pieces

-- Before what the rest is read as.
abbrev pub before : Pieces → Result (List Piece) AtByte → Result (List Piece) AtByte
before read (Ok pieces) = Ok (whole read pieces)
before read (Err broken) = Err broken

abbrev pub before_inner : Pieces → Option Inner → Option Inner
before_inner read = option_map (λ inner. record { pieces = whole read inner.pieces; behind = inner.behind })

abbrev pub Added : Pieces → Pieces → Part → Type 0
Added old new (byte b) = (pieces : List Piece) → whole new pieces ≡ whole old (with_byte b pieces)
Added old new (piece p) = (pieces : List Piece) → whole new pieces ≡ whole old (p ∷ pieces)
Added old new (refused broken) = ⊥

-- A part was added to what was read, or it is refused.
abbrev pub Adds : {A : Type 0} → Result A (Fault AtByte) → Pieces → Pieces → Part → Type 0
Adds (Ok _) old new part = Added old new part
Adds (Err (Refused broken)) old new part = part ≡ refused broken
Adds (Err NoMemory) old new part = Unit {0}

-- The same of a sign, whose answer is what follows it.
abbrev pub AddsCut : Result (Bor (List ℕ)) (Fault AtByte) → Pieces → Pieces → Cut → Type 0
AddsCut (Ok behind) old new first = Added old new first.part × (behind.now ≡ first.behind)
AddsCut (Err (Refused broken)) old new first = first.part ≡ refused broken
AddsCut (Err NoMemory) old new first = Unit {0}

-- ---- look-ups

abbrev pub ends_at : Ends → ℕ → Bool
ends_at Key = ends_key
ends_at Fallback = ends_fallback

-- Where no sign follows.
abbrev pub ended : List ℕ → Option Inner
ended [] = None
ended (b ∷ bs) = Some (record { pieces = []; behind = b ∷ bs })

abbrev pub inner_of : code_inner.Inner → Inner
inner_of inner = record { pieces = inner.pieces; behind = inner.behind.now }

abbrev pub asked_of : code_asked.Asked → Asked
asked_of asked = record { key = asked.key; fallback = asked.fallback; behind = asked.behind.now }

-- What was read is this, or it is refused.
abbrev pub Finds : {A B : Type 0} → (A → B) → Result A (Fault AtByte) → Option B → Type 0
Finds view (Ok found) wanted = wanted ≡ Some (view found)
Finds view (Err (Refused broken)) wanted = (wanted ≡ None) × (broken ≡ rule UNSUPPORTED_VARIABLE)
Finds view (Err NoMemory) wanted = Unit {0}

abbrev pub piece_of : code_lookup.Lookup → Piece
piece_of lookup = Lookup lookup.map lookup.key lookup.fallback

abbrev pub LooksUp : Result code_lookup.Lookup (Fault AtByte) → Cut → Type 0
LooksUp (Ok lookup) wanted = wanted ≡ record { part = piece (piece_of lookup); behind = lookup.behind.now }
LooksUp (Err (Refused broken)) wanted = wanted.part ≡ refused broken
LooksUp (Err NoMemory) wanted = Unit {0}
