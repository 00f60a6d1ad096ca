-- A part of a location among the others.
use Rattle.std.specs.Prelude.{◌≡◌, ℕ, ◌==◌, ◌&&◌, not, List, [], ◌∷◌, ◌++◌}
use Rattle.hc_base.specs.Bytes.{question}
use Rattle.hc_dfa.specs.Texts.{TextSet}
use Rattle.hc_forms.specs.Forms.{is_target_byte}
use Rattle.hc_pat_lang.specs.Sets.{AcceptsOnly}
use Rattle.hc_sent.specs.Parts.{IsOf, Joined, bare}
use Rattle.hc_sent.specs.Sets.{IsAnswer}
use Rattle.hc_sent.specs.Ways.{HasByte, is_filled, is_high}
use Rattle.hc_sent.specs.declared.joints.Joint.{Joint}
use Rattle.hc_sent.specs.declared.parts.Part.{Part}

-- What a part stands for, before bytes are escaped.
abbrev pub IsBare : Part → List ℕ → Type 0
IsBare part text = (own : List ℕ) × IsOf part own × (text ≡ bare part.writing own)

-- The texts of a set behind `?`, but the empty one as it is.
abbrev pub asked : TextSet → TextSet
asked set [] = set []
asked set (b ∷ text) = (b == question) && (is_filled text && set text)

-- The part, with these before it and behind it.
pub record IsJoint (earlier : List Part) (part : Part) (later : List Part) (joint : Joint) : Type 0 where
  pub writing : joint.writing ≡ part.writing
  pub before : AcceptsOnly (Joined earlier) joint.before
  pub own : AcceptsOnly (IsBare part) joint.own
  pub behind : AcceptsOnly (Joined later) joint.behind
  pub strays : IsAnswer (HasByte part (λ b. not (is_target_byte b))) joint.strays
  pub rises : IsAnswer (HasByte part is_high) joint.rises

-- Each of these parts, behind those that come earlier.
abbrev pub AreJoints : List Part → List Part → List Joint → Type 0
AreJoints earlier [] [] = Unit {0}
AreJoints earlier [] (joint ∷ joints) = ⊥
AreJoints earlier (part ∷ later) [] = ⊥
AreJoints earlier (part ∷ later) (joint ∷ joints) =
    IsJoint earlier part later joint × AreJoints (earlier ++ part ∷ []) later joints
