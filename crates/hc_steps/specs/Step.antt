-- Steps of a way. Each ends the way, or goes on with a value; on the way it may say an event or look
-- at the world. A step has no world: what it knows of one is what it looks at. Our own choice.
use Rattle.std.specs.Prelude.{ℕ, List, [], ◌∷◌, Option}
use Rattle.hc_model.specs.declared.event.Event.{Event}
use Rattle.hc_model.specs.declared.read.Read.{Read}
use Rattle.hc_model.specs.declared.read.Read.TheVariants.{KindOf, NamesOf, TextOf}
use Rattle.hc_model.specs.declared.walk.Kind.{Kind}

abbrev pub Path : Type 0
Path = List ℕ

-- What stands at a path, and the text that is there.
pub record Found : Type 0 where
  pub kind : Kind
  pub text : Option (List ℕ)

-- What a look shows: what stands at a path; that and the text that is there; the names in a
-- directory, where there is one.
abbrev pub Shows : Read → Type 0
Shows (KindOf path) = Kind
Shows (TextOf path) = Found
Shows (NamesOf path) = Option (List (List ℕ))

-- A world as what it shows.
abbrev pub Shown : Type 0
Shown = (read : Read) → Shows read

pub data Step (E A : Type 0) : Type 0 where
  leaves : A → Step E A
  ends : E → Step E A
  say : Event → Step E A → Step E A
  look : (read : Read) → (Shows read → Step E A) → Step E A

-- The next step, unless the way has ended.
infixl 10 ◌>>=◌
unfoldable pub ◌>>=◌ : {E A B : Type 0} → Step E A → (A → Step E B) → Step E B
(leaves left) >>= next = next left
(ends end) >>= next = ends end
(say event rest) >>= next = say event (rest >>= next)
(look read rest) >>= next = look read (λ shown. rest shown >>= next)

-- ---- the looks by their kinds

abbrev pub kind_at : {E : Type 0} → Path → Step E Kind
kind_at path = look (KindOf path) leaves

abbrev pub text_at : {E : Type 0} → Path → Step E Found
text_at path = look (TextOf path) leaves

abbrev pub names_at : {E : Type 0} → Path → Step E (Option (List (List ℕ)))
names_at path = look (NamesOf path) leaves

-- ---- events and lists

abbrev pub told : {E A : Type 0} → Event → A → Step E A
told event left = say event (leaves left)

-- One item after another, each from what the ones before it left.
abbrev pub in_order : {E A B : Type 0} → (B → A → Step E B) → B → List A → Step E B
in_order step so_far [] = leaves so_far
in_order step so_far (item ∷ items) = step so_far item >>= λ so_far. in_order step so_far items
