-- What the members of `src/` are seen as.
use Rattle.std.specs.Borrow.{Bor}
use Rattle.std.specs.Prelude.{ℕ, List}
use Rattle.hc_pattern.specs.Members.{Member, one, many, hyphen, refused, Written}
use Rattle.hc_pattern.specs.declared.member.Member.{Member as MemberOfBytes}
use Rattle.hc_pattern.specs.declared.member.Member.TheVariants.{One, Many, Hyphen, Refused}
use Rattle.hc_pattern.specs.declared.member.Written.{Written as WrittenOfBytes}

abbrev pub member_view : MemberOfBytes → Member
member_view (One b) = one b
member_view (Many ranges) = many ranges.now
member_view Hyphen = hyphen
member_view (Refused refusal) = refused refusal

abbrev pub written_view : WrittenOfBytes → Written
written_view w = record { member = member_view w.member; length = w.length }

abbrev pub set_view : Bor (List ℕ) × Bor (List (ℕ × ℕ)) → List ℕ × List (ℕ × ℕ)
set_view set = (set.0.now, set.1.now)
