-- Promise. What a command means: what it uses, answers, and may put and say. Own.
use Rattle.std.specs.Prelude.{◌≡◌, ℕ, Bool, true, false, List, []}
use Rattle.record_io.specs.Puts.{Put}
use Rattle.command_frame.specs.declared.status.Status.{Status}
use Rattle.command_frame.specs.Answers.{Answer}

-- what a command uses beside notes: the input, the files, the made file, the grown file, standard output, and memory
pub record Uses : Type 0 where
  pub input : Bool
  pub files : Bool
  pub made : Bool
  pub grown : Bool
  pub out : Bool
  pub memory : Bool

-- notes alone
abbrev pub none_used : Uses
none_used = record { input = false; files = false; made = false; grown = false; out = false; memory = false }

-- the bytes of what is read: of the input, of the files, and of the file that is grown
pub record Read : Type 0 where
  pub input : List ℕ
  pub files : List (List ℕ)
  pub grown : List ℕ

-- what a command means
pub record Meaning : Type 1 where
  -- whether it is one, and not words that are none
  pub is_command : Bool
  -- what it uses
  pub uses : Uses
  -- what has to hold of what it reads for its answers to be told, as that all stores of one file show the same bytes, once
  -- their sizes let it go on to its work
  pub supposes : Read → Type 0
  -- its answers to what it reads: laws of riegeli_tool say of which commands there is always one
  -- (`file_answers_exist`) and never another (`answers_are_one`)
  pub answers : Read → Answer → Type 0
  -- what it may have put where it can't read on or has no memory, by how much its files had handed out before and after the work
  pub may_have_put : Read → (before after : List ℕ) → List Put → Type 0
  -- what the file that it grows holds then, also where standard output failed, and may hold where it was cut off
  pub leaves : Read → List ℕ → Type 0
  pub may_leave : Read → List ℕ → Type 0
  -- and how that comes from what it held before, by the status, whatever else is read
  pub keeps : Status → (before after : List ℕ) → Type 0
  -- the sizes of its files by which it goes on to its work
  pub may_work : List ℕ → Type 0
  -- how much its files may hand out, by their counts of it before and after the work: by their sizes, and by what it reads
  pub may_take : (sizes before after : List ℕ) → Type 0
  pub may_take_of : Read → (before after : List ℕ) → Type 0
  -- the status that it may end with and what notes then say, by the sizes of its files, whatever it reads
  pub may_end : List ℕ → Status → List ℕ → Type 0
  -- what it may say in notes before its end, whatever it reads
  pub may_say : List ℕ → Type 0
  -- the most bytes that it takes of the input
  pub most_taken : ℕ

-- a command that uses these: it supposes nothing, reads and grows no file, says nothing before its end, and takes nothing of the
-- input. In place of ⊥ each tells how it ends, one that reads files what it may take, and one that grows a file what that holds
abbrev pub meaning : Uses → (Read → Answer → Type 0) → Meaning
meaning uses answers = record {
  is_command = true;
  uses = uses;
  supposes = λ r. Unit {0};
  answers = answers;
  may_have_put = λ r before after part. part ≡ [];
  leaves = λ r bytes. ⊥;
  may_leave = λ r bytes. ⊥;
  keeps = λ ended before after. ⊥;
  may_work = λ sizes. sizes ≡ [];
  may_take = λ sizes before after. ⊥;
  may_take_of = λ r before after. Unit {0};
  may_end = λ sizes ended text. ⊥;
  may_say = λ text. text ≡ [];
  most_taken = 0;
}
