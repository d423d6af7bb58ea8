-- Inside. What stands at a place of a file where a chunk may begin. Own.
use Rattle.std.specs.Prelude.{◌≡◌, ℕ, Option, IfSome, List}
use Rattle.chunk_header.specs.Views.{IsHeader, bytes_of_header, value_of_header}
use Rattle.chunk_header.specs.declared.Header.{Header}
use Rattle.chunk_reader.specs.Places.{header_bytes_at, end_by}
use Rattle.chunk_reader.specs.Reasons.{Applies, NoneOf, header_reasons}
use Rattle.chunk_reader.specs.declared.heads.Head.{Head}
use Rattle.chunk_reader.specs.declared.heads.Head.TheVariants.{Short, BadHash, Right}
use Rattle.chunk_reader.specs.declared.reasons.Why.{Why}
use Rattle.chunk_reader.specs.declared.reasons.Why.TheVariants as why

-- a header was found at a place, and where its chunk ends by it: where the bytes of the file are shown it is the one there, and
-- none of the reasons applies
pub record IsFoundHead (reasons : List Why) (bytes : Option (List ℕ)) (place : ℕ) (h : Header) (end : ℕ) : Type 0 where
  pub fits : IsHeader h
  pub ends : end ≡ end_by place (value_of_header h)
  pub header : IfSome bytes (λ file. header_bytes_at file place ≡ bytes_of_header h)
  pub none : IfSome bytes (λ file. NoneOf (Applies file place) reasons)

-- this is what stands at a place: no whole header, a header of another hash than its own, or a right one
abbrev pub IsHead : List ℕ → ℕ → Head → Type 0
IsHead file place Short = Applies file place why.Short
IsHead file place BadHash = (¬ Applies file place why.Short) × Applies file place why.HeaderHash
IsHead file place (Right header end) =
    NoneOf (Applies file place) header_reasons × (header_bytes_at file place ≡ bytes_of_header header)
