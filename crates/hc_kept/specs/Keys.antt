-- By what a `.htaccess` that was read is found.
use Rattle.std.specs.Prelude.{◌≡◌, Bool, true, false, ◌&&◌}
use Rattle.std.proofs.Common.{refl, ap, ◌∙◌}
use Rattle.std.specs.Bool.{beq}
use Rattle.std.specs.Str.{bytes_eq}
use Rattle.hc_htaccess.specs.Pairs.{is_for}
use Rattle.hc_htaccess.proofs.Pairs.{is_for_Decides}
use Rattle.hc_model.specs.declared.section.Allowed.{Allowed}
use Rattle.hc_steps.specs.Step.{Path}
use Rattle.hc_kept.specs.declared.key.FileKey.{FileKey}
use Rattle.hc_kept.specs.contracts.key.FileKeyPartialEq.TheImpl as key

-- Whether a key is of this directory, for what is allowed there.
abbrev pub is_at : Path → Allowed → FileKey → Bool
is_at dir allowed key = is_for (record { dir = dir; allowed = allowed }) key.dir.items key.allowed

abbrev pub same_key : FileKey → FileKey → Bool
same_key one other = key.ghosts.eq one other

-- ---- both say the same

and_true : (b : Bool) → b && true ≡ b
and_true true = refl
and_true false = refl

pub same_is : (one other : FileKey) → is_at one.dir.items one.allowed other ≡ same_key one other
same_is one other =
    ap (λ last. bytes_eq one.dir.items other.dir.items && (beq one.allowed.auth other.allowed.auth
    && (beq one.allowed.file_info other.allowed.file_info && (beq one.allowed.indexes other.allowed.indexes
    && (beq one.allowed.limit other.allowed.limit && last)))))
    (and_true (beq one.allowed.options other.allowed.options))

pub parts : (dir : Path) (allowed : Allowed) (key : FileKey) → is_at dir allowed key ≡ true
    → (dir ≡ key.dir.items) × (allowed ≡ key.allowed)
parts dir allowed key is = (is_for_Decides (record { dir = dir; allowed = allowed }) key.dir.items key.allowed).0 is

pub key_same : (dir : Path) (allowed : Allowed) (one other : FileKey) → is_at dir allowed one ≡ true
    → is_at dir allowed other ≡ same_key one other
key_same dir allowed one other is =
    let same = parts dir allowed one is in (λ i. is_at (same.0 i) (same.1 i) other) ∙ same_is one other
