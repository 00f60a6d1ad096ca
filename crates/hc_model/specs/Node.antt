-- What a world has at a path.
use Rattle.std.specs.Prelude.{◌≡◌, ◌⊎◌, ℕ, List, Option, Some, None, refl}
use mathlib.Core.Logic.{inl, inr}
use Rattle.std.specs.Coded.{Coded, code_by, coded⊎, coded_list, coded_ℕ, coded_bool}
use Rattle.std.specs.Prelude.{Bool, true, false}
use Rattle.hc_model.specs.declared.walk.Kind.{Kind}
use Rattle.hc_model.specs.declared.walk.Kind.TheVariants.{Absent, Dir, File}

-- A directory, a file without a text, or a file with its text.
pub data Node : Type 0 where
  dir : Node
  file : Node
  text : List ℕ → Node

abbrev as_sum : Node → Bool ⊎ List ℕ
as_sum dir = inl true
as_sum file = inl false
as_sum (text bytes) = inr bytes

abbrev of_sum : Bool ⊎ List ℕ → Node
of_sum (inl true) = dir
of_sum (inl false) = file
of_sum (inr bytes) = text bytes

pub of_sum-as_sum : (node : Node) → of_sum (as_sum node) ≡ node
of_sum-as_sum dir = refl
of_sum-as_sum file = refl
of_sum-as_sum (text bytes) = refl

abbrev pub node_code : Coded Node
node_code = code_by (Bool ⊎ List ℕ) (coded⊎ coded_bool (coded_list coded_ℕ)) as_sum of_sum of_sum-as_sum

abbrev pub kind_of : Option Node → Kind
kind_of None = Absent
kind_of (Some dir) = Dir
kind_of (Some file) = File
kind_of (Some (text bytes)) = File

abbrev pub text_of : Option Node → Option (List ℕ)
text_of None = None
text_of (Some dir) = None
text_of (Some file) = None
text_of (Some (text bytes)) = Some bytes

abbrev pub is_dir : Option Node → Bool
is_dir None = false
is_dir (Some dir) = true
is_dir (Some file) = false
is_dir (Some (text bytes)) = false

abbrev pub is_file : Option Node → Bool
is_file None = false
is_file (Some dir) = false
is_file (Some file) = true
is_file (Some (text bytes)) = true
