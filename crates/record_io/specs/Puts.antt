-- Promise. Bytes that go to several sinks, in their order. Own.
use Rattle.std.specs.Prelude.{◌≡◌, ℕ, Bool, true, false, Option, List, [], ◌∷◌, ◌++◌, map, if◌then◌else◌}
use Rattle.record_io.specs.Outside.{Takes}

-- where a byte goes: to the file that is made, to standard output, or to standard error
pub data Stream : Type 0 where
  Made : Stream
  Out : Stream
  Notes : Stream

-- whether two are the same
abbrev pub is_stream : Stream → Stream → Bool
is_stream Made Made = true
is_stream Out Out = true
is_stream Notes Notes = true
is_stream other another = false

-- a byte, and where it goes
pub record Put : Type 0 where
  pub to : Stream
  pub byte : ℕ

-- bytes that all go to one stream
abbrev pub puts_to : Stream → List ℕ → List Put
puts_to stream bytes = map (λ byte. record { to = stream; byte = byte }) bytes

-- of what is put, the bytes that go to a stream
abbrev pub bytes_to : Stream → List Put → List ℕ
bytes_to stream [] = []
bytes_to stream (put ∷ puts) = if is_stream stream put.to then put.byte ∷ bytes_to stream puts else bytes_to stream puts

-- what the sinks behind the streams have taken, where they show it
pub record Taken : Type 0 where
  pub made : Option (List ℕ)
  pub out : Option (List ℕ)
  pub notes : Option (List ℕ)

abbrev pub taken_by : (made out notes : Option (List ℕ)) → Taken
taken_by made out notes = record { made = made; out = out; notes = notes }

-- what is put went out: each sink took the bytes that go to its stream
pub record GoOut (before after : Taken) (puts : List Put) : Type 0 where
  pub made : Takes before.made after.made (bytes_to Made puts)
  pub out : Takes before.out after.out (bytes_to Out puts)
  pub notes : Takes before.notes after.notes (bytes_to Notes puts)

-- a front of what is put, which breaks off before a byte that goes to a stream
pub record BreaksOff (stream : Stream) (part puts : List Put) : Type 0 where
  pub byte : ℕ
  pub rest : List Put
  pub parts : puts ≡ part ++ (record { to = stream; byte = byte } ∷ rest)
