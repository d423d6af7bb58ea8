use Rattle.chunk_header.proofs.HeaderValues.{header_in-header, header_in-chunk}
use Rattle.chunk_header.proofs.RightHeaders.{header_of_right}
use Rattle.chunk_header.proofs.laws.header_bytes_say_the_fields.Goals as goal

pub returns : goal.returns
returns c = record { header = header_in-header; chunk = header_in-chunk; right = header_of_right }
