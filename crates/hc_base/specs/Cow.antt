-- What a lent or owned text is seen as.
use Rattle.std.specs.Prelude.{ℕ, List, string_bytes}
use Rattle.std.specs.declared.alloc.Global.{Global}
use Rattle.std.specs.declared.borrow.CowStr.{CowStr}
use Rattle.std.specs.declared.borrow.CowStr.TheVariants.{Borrowed, Owned}

abbrev pub bytes_of_cow : CowStr Global → List ℕ
bytes_of_cow (Borrowed text) = text.now
bytes_of_cow (Owned text) = string_bytes text
