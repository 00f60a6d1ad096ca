-- What the indexes hold in which modules and variables are found.
use Rattle.std.specs.Prelude.{◌≡◌, ℕ, List, ◌||◌, Option, Some, if◌then◌else◌, option_map}
use Rattle.std.specs.Prelude.{string_bytes, String}
use Rattle.std.specs.declared.alloc.Global.{Global}
use Rattle.std.specs.BTreeMap.{BTreeMap, get_by_text}
use Rattle.std.specs.BTreeSet.{BTreeSet, contains_text}
use Rattle.std.specs.Str.{bytes_eq}
use Rattle.hc_model.specs.declared.config.Define.{Define}
use Rattle.hc_says.specs.Says.{is_among, value_of}

abbrev pub Set : Type 0
Set = BTreeSet (String Global)

abbrev pub Map : Type 0
Map = BTreeMap (String Global) (String Global)

abbrev pub text_in : Map → List ℕ → Option (List ℕ)
text_in values name = option_map string_bytes (get_by_text values name)

abbrev pub AreNames : Set → List (List ℕ) → Type 0
AreNames set names = (name : List ℕ) → contains_text set name ≡ is_among names name

abbrev pub AreValues : Map → List Define → Type 0
AreValues values defines = (name : List ℕ) → text_in values name ≡ value_of defines name

-- One name more, and one value more.
abbrev pub HasName : Set → Set → List ℕ → Type 0
HasName before later name = (q : List ℕ) → contains_text later q ≡ (bytes_eq name q || contains_text before q)

abbrev pub HasValue : Map → Map → List ℕ → List ℕ → Type 0
HasValue before later name value = (q : List ℕ)
    → text_in later q ≡ (if bytes_eq name q then Some value else text_in before q)
