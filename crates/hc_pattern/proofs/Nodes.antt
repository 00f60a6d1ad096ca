-- What each node of a `Pat` is seen as.
use Rattle.hc_pattern.proofs.Common.{◌≡◌, ℕ, Bool, Option, Box, Global, sym, ap, ◌∙◌, Pattern, empty}
use Rattle.hc_pattern.proofs.Common.{byte, class, start, finish, cat, alt, group, repeat, node_view, pattern_of}
use Rattle.hc_pattern.specs.declared.set.ByteSet.{ByteSet}
use Rattle.hc_pattern.specs.declared.pat.Pat.{Pat, fold-roll-Pat}
use Rattle.hc_pattern.specs.declared.pat.Pat.TheOpen.{Pat-F}
use Rattle.hc_pattern.specs.declared.pat.Pat.TheVariants.{Empty, Byte, Class, Start, Finish, Cat, Alt, Group, Repeat}
use Rattle.hc_pattern.specs.declared.pat.Pat.TheVariants.{rolls-Empty, rolls-Byte, rolls-Class, rolls-Start}
use Rattle.hc_pattern.specs.declared.pat.Pat.TheVariants.{rolls-Finish, rolls-Cat, rolls-Alt, rolls-Group, rolls-Repeat}

pub is_empty : pattern_of Empty ≡ empty
is_empty = ap pattern_of (sym rolls-Empty) ∙ fold-roll-Pat Pattern node_view Pat-F.Empty

pub is_byte : (b : ℕ) → pattern_of (Byte b) ≡ byte b
is_byte b = ap pattern_of (sym (rolls-Byte b)) ∙ fold-roll-Pat Pattern node_view (Pat-F.Byte b)

pub is_class : (set : ByteSet) → pattern_of (Class set) ≡ class set
is_class set = ap pattern_of (sym (rolls-Class set)) ∙ fold-roll-Pat Pattern node_view (Pat-F.Class set)

pub is_start : pattern_of Start ≡ start
is_start = ap pattern_of (sym rolls-Start) ∙ fold-roll-Pat Pattern node_view Pat-F.Start

pub is_finish : pattern_of Finish ≡ finish
is_finish = ap pattern_of (sym rolls-Finish) ∙ fold-roll-Pat Pattern node_view Pat-F.Finish

pub is_cat : (first second : Box Pat Global) → pattern_of (Cat first second) ≡ cat (pattern_of first.value)
    (pattern_of second.value)
is_cat first second = ap pattern_of (sym (rolls-Cat first second))
    ∙ fold-roll-Pat Pattern node_view (Pat-F.Cat first second)

pub is_alt : (first second : Box Pat Global) → pattern_of (Alt first second) ≡ alt (pattern_of first.value)
    (pattern_of second.value)
is_alt first second = ap pattern_of (sym (rolls-Alt first second))
    ∙ fold-roll-Pat Pattern node_view (Pat-F.Alt first second)

pub is_group : (number : ℕ) (body : Box Pat Global) → pattern_of (Group number body)
    ≡ group number (pattern_of body.value)
is_group number body = ap pattern_of (sym (rolls-Group number body))
    ∙ fold-roll-Pat Pattern node_view (Pat-F.Group number body)

pub is_repeat : (body : Box Pat Global) (least : ℕ) (most : Option ℕ) (greedy : Bool)
    → pattern_of (Repeat body least most greedy) ≡ repeat (pattern_of body.value) least most greedy
is_repeat body least most greedy =
    ap pattern_of (sym (rolls-Repeat body least most greedy))
    ∙ fold-roll-Pat Pattern node_view (Pat-F.Repeat body least most greedy)
