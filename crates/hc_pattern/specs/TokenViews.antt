-- What the tokens of `src/` are seen as.
use Rattle.hc_pattern.specs.Pattern.{Pattern, byte, class, start, finish}
use Rattle.hc_pattern.specs.Tokens.{Braces, Count, Placed, Sign, Token, item, opens, closes, bars, counts, unclosed}
use Rattle.hc_pattern.specs.Tokens.{broken}
use Rattle.hc_pattern.specs.declared.count.Braces.{Braces as BracesOfBytes}
use Rattle.hc_pattern.specs.declared.count.Count.{Count as CountOfBytes}
use Rattle.hc_pattern.specs.declared.token.Leaf.{Leaf}
use Rattle.hc_pattern.specs.declared.token.Leaf.TheVariants.{Byte, Class, Start, Finish}
use Rattle.hc_pattern.specs.declared.token.Placed.{Placed as PlacedOfBytes}
use Rattle.hc_pattern.specs.declared.token.Sign.{Sign as SignOfBytes}
use Rattle.hc_pattern.specs.declared.token.Token.{Token as TokenOfBytes}
use Rattle.hc_pattern.specs.declared.token.Token.TheVariants.{Item, Opens, Closes, Bars, Counts, Unclosed, Broken}

abbrev pub leaf_view : Leaf → Pattern
leaf_view (Byte b) = byte b
leaf_view (Class set) = class set
leaf_view Start = start
leaf_view Finish = finish

abbrev pub count_view : CountOfBytes → Count
count_view c = record { least = c.least; most = c.most; greedy = c.greedy; is_sign = c.is_sign; is_plus = c.is_plus }

abbrev pub token_view : TokenOfBytes → Token
token_view (Item leaf) = item (leaf_view leaf)
token_view (Opens number) = opens number
token_view Closes = closes
token_view Bars = bars
token_view (Counts count) = counts (count_view count)
token_view Unclosed = unclosed
token_view (Broken refusal) = broken refusal

abbrev pub sign_view : SignOfBytes → Sign
sign_view sign = record { token = token_view sign.token; length = sign.length }

abbrev pub placed_view : PlacedOfBytes → Placed
placed_view placed = record { at = placed.at; token = token_view placed.token }

abbrev pub braces_view : BracesOfBytes → Braces
braces_view b = record { least = b.least; most = b.most; length = b.length }
