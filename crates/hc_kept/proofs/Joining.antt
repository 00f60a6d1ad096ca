-- What holds of some files holds of them and others.
use Rattle.std.proofs.Common.{◌≡◌, ◌⊎◌, inl, inr, List, ◌++◌}
use Rattle.std.specs.List.{Contains}
use Rattle.std.proofs.lemmas.List.Elements.{Contains-append_cases, Contains-append_left, Contains-append_right}
use Rattle.hc_kept.specs.Files.{KeptFile, as_loaded}
use Rattle.hc_kept.specs.Entries.{Puts}

pub record Joins (part rest whole : List KeptFile) : Type 0 where
  pub of_part : (file : KeptFile) → Contains part file → Contains whole file
  pub of_rest : (file : KeptFile) → Contains rest file → Contains whole file
  pub parts : (file : KeptFile) → Contains whole file → Contains part file ⊎ Contains rest file

pub joins_before : (part rest : List KeptFile) → Joins part rest (part ++ rest)
joins_before part rest = record {
  of_part = Contains-append_left part rest;
  of_rest = Contains-append_right part rest;
  parts = Contains-append_cases part rest;
}

turned : {A B : Type 0} → A ⊎ B → B ⊎ A
turned (inl a) = inr a
turned (inr b) = inl b

pub joins_behind : (rest part : List KeptFile) → Joins part rest (rest ++ part)
joins_behind rest part = record {
  of_part = Contains-append_right rest part;
  of_rest = Contains-append_left rest part;
  parts = λ file has. turned (Contains-append_cases rest part file has);
}

pub puts_joined : {old new rest before after : List KeptFile} {file : KeptFile} → Puts old new file
    → Joins old rest before → Joins new rest after → Puts before after file
puts_joined {old} {new} {rest} {before} {after} {file} puts was is = record {
  there = is.of_part file puts.there;
  others = λ other has. from_after other (is.parts other has);
  stay = λ other has. from_before other (was.parts other has);
}
  where
    known : (other : KeptFile) → (other ≡ file) ⊎ Contains old other → (other ≡ file)
        ⊎ Contains before other
    known other (inl same) = inl same
    known other (inr has) = inr (was.of_part other has)

    from_after : (other : KeptFile) → Contains new other ⊎ Contains rest other → (other ≡ file)
        ⊎ Contains before other
    from_after other (inl has) = known other (puts.others other has)
    from_after other (inr has) = inr (was.of_rest other has)

    kept : (other : KeptFile) → (as_loaded other ≡ as_loaded file) ⊎ Contains new other
        → (as_loaded other ≡ as_loaded file) ⊎ Contains after other
    kept other (inl same) = inl same
    kept other (inr has) = inr (is.of_part other has)

    from_before : (other : KeptFile) → Contains old other ⊎ Contains rest other
        → (as_loaded other ≡ as_loaded file) ⊎ Contains after other
    from_before other (inl has) = kept other (puts.stay other has)
    from_before other (inr has) = inr (is.of_rest other has)
