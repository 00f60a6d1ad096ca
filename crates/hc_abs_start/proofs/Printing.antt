-- The client of a network, and how it is printed.
use Rattle.std.proofs.Common.{◌≡◌, ◌∙◌, ℕ, zero, suc, ◌+◌, ◌-◌, ◌/◌, ◌%◌, ◌^◌}
use Rattle.std.proofs.Common.{◌==◌, ◌<◌, ◌≤◌, List, [], ◌∷◌, map, Bool, true, false, ◌&&◌}
use Rattle.std.proofs.Common.{if◌then◌else◌, Some, None, refl, sym, ap, arith, true≢false}
use Rattle.std.proofs.Math.Nat.{mod-eq_of_lt, mod-lt}
use Rattle.std.proofs.lemmas.Bool.{and_parts, cond_both, eqb-true, ltb-true}
use Rattle.std.proofs.lemmas.Nat.{and_mask}
use Rattle.std.specs.Fmt.{decimal, digit_glyph, digits, digits_onto}
use Rattle.std.specs.List.{join_with_byte}
use Rattle.std.specs.Prelude.{bit_and, nat_lt}
use Rattle.hc_addr.specs.Networks.{holds_at}
use Rattle.hc_addr.specs.Printed.{hexadecimal, last_digits, printed}
use Rattle.hc_addr.specs.declared.addr.Addr.{Addr}
use Rattle.hc_addr.specs.declared.addr.Addr.TheVariants.{V4, V6}
use Rattle.hc_addr.specs.declared.net.Net.{Net}
use Rattle.hc_addr.specs.declared.sizes.TheConstants.{BYTES, BYTE_VALUES, GROUPS, GROUP_VALUES}
use Rattle.hc_base.specs.Bytes.{colon, dot}
use Rattle.hc_dfa.specs.Texts.{IsText}
use Rattle.hc_plan.proofs.Common.{and_both}
use Rattle.hc_plan.proofs.Made.{text_is}
use Rattle.hc_plan.proofs.Narrowed.{joined_bytes}
use Rattle.hc_plan.specs.Cover.{GivenIs}
use Rattle.hc_scope.specs.Clients.{clients_of, fits}
use Rattle.hc_abs_rw.specs.Known.{client_given}
use Rattle.hc_abs_start.specs.Starts.{is_whole, sole_client}

-- ---- a printed address is of bytes

glyph_small : (base n : ℕ) → 0 < base → base ≤ 16 → digit_glyph false (n % base) < 256
glyph_small base n some few =
    let low = mod-lt n some in
    cond_both (nat_lt (n % base) 10) (48 + n % base) (87 + n % base) (λ glyph. glyph < 256) (λ is. omega arith)
    (λ isnt. omega arith)

digits_text : (fuel base n : ℕ) (acc : List ℕ) → 0 < base → base ≤ 16 → IsText acc
    → IsText (digits_onto fuel base false n acc)
digits_text zero base n acc some few text = text
digits_text (suc fuel) base n acc some few text =
    let onto : IsText (digit_glyph false (n % base) ∷ acc) = (glyph_small base n some few, text) in
    cond_both (n / base == 0) (digit_glyph false (n % base) ∷ acc) _ IsText (λ is. onto)
    (λ isnt. digits_text fuel base (n / base) (digit_glyph false (n % base) ∷ acc) some few onto)

number_text : (base n : ℕ) → 0 < base → base ≤ 16 → IsText (digits base false n)
unfolding digits
number_text base n some few = digits_text 64 base n [] some few tt

joined_text : (mark : ℕ) (print : ℕ → List ℕ) → mark < 256 → ((n : ℕ) → IsText (print n))
    → (numbers : List ℕ) → IsText (join_with_byte mark (map print numbers))
joined_text mark print small text [] = tt
joined_text mark print small text (n ∷ []) = text n
joined_text mark print small text (n ∷ m ∷ numbers) =
    joined_bytes (print n) (mark ∷ join_with_byte mark (map print (m ∷ numbers))) (text n)
    (small, joined_text mark print small text (m ∷ numbers))

printed_text : (addr : Addr) → IsText (printed addr)
printed_text (V4 a) =
    joined_text dot decimal (omega arith) (λ n. number_text 10 n (omega arith) (omega arith))
    (last_digits BYTE_VALUES BYTES a)
printed_text (V6 a) =
    joined_text colon hexadecimal (omega arith) (λ n. number_text 16 n (omega arith) (omega arith))
    (last_digits GROUP_VALUES GROUPS a)

-- ---- a network of one address

under_all : (width own a mask : ℕ) → (nat_lt own (2 ^ width) && (mask == 2 ^ width - 1)) ≡ true
    → (nat_lt a (2 ^ width) && (bit_and a mask == bit_and own mask)) ≡ true → a ≡ own
under_all width own a mask whole held =
    let of_own = and_parts (nat_lt own (2 ^ width)) (mask == 2 ^ width - 1) whole in
    let of_client = and_parts (nat_lt a (2 ^ width)) (bit_and a mask == bit_and own mask) held in
    let is = eqb-true mask (2 ^ width - 1) of_own.1 in
    sym (mod-eq_of_lt (ltb-true a (2 ^ width) of_client.0)) ∙ sym (and_mask a width) ∙ ap (bit_and a) (sym is)
    ∙ eqb-true (bit_and a mask) (bit_and own mask) of_client.1 ∙ ap (bit_and own) is ∙ and_mask own width
    ∙ mod-eq_of_lt (ltb-true own (2 ^ width) of_own.0)

sole_is : (own client : Addr) (mask : ℕ) → is_whole own mask ≡ true
    → (fits client && holds_at mask own client) ≡ true → client ≡ own
sole_is (V4 own) (V4 a) mask whole held = ap V4 (under_all 32 own a mask whole held)
sole_is (V6 own) (V6 a) mask whole held = ap V6 (under_all 128 own a mask whole held)
sole_is (V4 own) (V6 a) mask whole held = absurd (true≢false (sym (and_parts (fits (V6 a)) false held).1))
sole_is (V6 own) (V4 a) mask whole held = absurd (true≢false (sym (and_parts (fits (V4 a)) false held).1))

pub printed_given : (net : Net) (client : Addr) → clients_of net client ≡ true
    → GivenIs (client_given (sole_client net)) (printed client)
printed_given net client held = by (is_whole net.addr net.mask) refl
  where
    by : (whole : Bool) → is_whole net.addr net.mask ≡ whole
        → GivenIs (client_given (if whole then Some net.addr else None)) (printed client)
    by true whole = ap printed (sole_is net.addr client net.mask whole held)
    by false isnt = and_both (text_is (printed client) (printed_text client)) refl
