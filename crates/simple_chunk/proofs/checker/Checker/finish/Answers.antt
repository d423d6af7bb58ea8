use Rattle.std.proofs.Common.{List, ℕ, Result, Ok, Err, refl}
use Rattle.chunk_header.specs.SimpleChunks.{IsSimpleChunk, IsCompressed}
use Rattle.chunk_header.specs.Views.{value_of}
use Rattle.chunk_header.specs.declared.Header.{Header}
use Rattle.simple_chunk.specs.Checkers.{CheckerValue, HasChecked}
use Rattle.simple_chunk.specs.declared.decoding.SimpleFault.{SimpleFault}
use Rattle.simple_chunk.specs.declared.decoding.SimpleFault.TheVariants.{Compressed, Contents}
use Rattle.simple_chunk.proofs.Faults.{Verdict, Verdict-ok, Verdict-compressed, Verdict-contents}
use Rattle.simple_chunk.proofs.Checking.{Ended-sizes, Ended-compressed, Ended-unread}
use Rattle.simple_chunk.proofs.checker.Checker.finish.Goals as goal

-- what is answered is the verdict on whichever bytes the checker has taken
abbrev Answers : CheckerValue → Result (Unit {0}) SimpleFault → Type 0
Answers k answer = (h : Header) (bytes : List ℕ) → HasChecked k h bytes
    → Verdict (IsSimpleChunk (value_of h bytes)) (IsCompressed (value_of h bytes)) answer

pub returns-then-are_all : goal.returns-then-are_all
returns-then-are_all c =
    let left = rw (← c.self.view_is) at c.requires in
    let verdict : Answers _ (Ok tt) = λ h bytes checked.
    let end = Ended-sizes _ h bytes left c.in-Sizes.is checked in Verdict-ok _ _ (end.0.1 (c.if-are_all.ensures.0 refl)) end.1 in
    rw (← c.self.view_is) (record {
      holds = λ h bytes checked. (verdict h bytes checked).holds;
      compressed = λ h bytes checked. (verdict h bytes checked).compressed;
      contents = λ h bytes checked. (verdict h bytes checked).contents;
      no_memory = λ e. cc;
    })

pub returns-else-are_all : goal.returns-else-are_all
returns-else-are_all c =
    let left = rw (← c.self.view_is) at c.requires in
    let verdict : Answers _ (Err Contents) = λ h bytes checked.
    let end = Ended-sizes _ h bytes left c.in-Sizes.is checked in
    Verdict-contents _ _ (λ records. let all = c.if-are_all.ensures.1 (end.0.0 records) in cc) end.1 in
    rw (← c.self.view_is) (record {
      holds = λ h bytes checked. (verdict h bytes checked).holds;
      compressed = λ h bytes checked. (verdict h bytes checked).compressed;
      contents = λ h bytes checked. (verdict h bytes checked).contents;
      no_memory = λ e. cc;
    })

pub returns-in-Compressed : goal.returns-in-Compressed
returns-in-Compressed c =
    let left = rw (← c.self.view_is) at c.requires in
    let verdict : Answers _ (Err Compressed) = λ h bytes checked.
    let end = Ended-compressed _ h bytes left c.in-Compressed.is checked in Verdict-compressed _ _ end.0 end.1 in
    rw (← c.self.view_is) (record {
      holds = λ h bytes checked. (verdict h bytes checked).holds;
      compressed = λ h bytes checked. (verdict h bytes checked).compressed;
      contents = λ h bytes checked. (verdict h bytes checked).contents;
      no_memory = λ e. cc;
    })

pub returns-in_default : goal.returns-in_default
returns-in_default c =
    let left = rw (← c.self.view_is) at c.requires in
    let verdict : Answers _ (Err Contents) = λ h bytes checked.
    let end = Ended-unread _ h bytes left c.in_default.not-Sizes c.in_default.not-Compressed c.self.invariant.1 checked in
    Verdict-contents _ _ end.0 end.1 in
    rw (← c.self.view_is) (record {
      holds = λ h bytes checked. (verdict h bytes checked).holds;
      compressed = λ h bytes checked. (verdict h bytes checked).compressed;
      contents = λ h bytes checked. (verdict h bytes checked).contents;
      no_memory = λ e. cc;
    })
