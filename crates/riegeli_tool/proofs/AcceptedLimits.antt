-- What the words of an accepted command say is within its limits.
use Rattle.std.proofs.Common.{if◌then◌else◌, ◌≡◌, ℕ, ◌-◌, ◌^◌, ◌==◌, Bool, true, false, Option, Some, None, List, [], ◌∷◌, option_map, unwrap_or, codes, refl, sym, subst, arith}
use Rattle.std.specs.Option.{IfSome}
use Rattle.std.specs.Str.{bytes_eq}
use Rattle.record_writer.specs.OptionLimits.{AreInLimits}
use Rattle.write_command.specs.declared.write_words.WriteWords.{WriteWords}
use Rattle.sample_command.specs.SampleCommand.{most_records}
use Rattle.command_frame.specs.Numbers.{number_within}
use Rattle.command_frame.specs.Options.{value_given, has_flag, are_words_of, file_places, only_two, file_place, is_same_at, optional_value, number_given, files_words_of, ◌>>=◌}
use Rattle.command_frame.specs.Writing.{default_chunk_size}
use Rattle.command_frame.proofs.WithinBounds.{IsWithin, and_then_some, number_within-bounds, optional_value-within, unwrap_or-within}
use Rattle.command_frame.proofs.FilesLimits.{files_words_of-within}
use Rattle.riegeli_tool.specs.declared.command.Command.{Command}
use Rattle.riegeli_tool.specs.declared.command.Command.TheVariants.{Write, Join, Collect}
use Rattle.riegeli_tool.specs.CommandWords.{options_of, pad_named, one_sought, line_options, line_words_of, append_command_of, sample_command_of, ranges_command_of, show_command_of, recover_command_of, verify_command_of, seek_command_of, repair_command_of}
use Rattle.riegeli_tool.specs.Commands.{command_of, stores_of, accepted}
use Rattle.riegeli_tool.specs.CommandLimits.{IsWithinLimits}

-- what follows from an answer keeps to P, where all that may follow does
bind : {X Y : Type 0} (P : Y → Type 0) (o : Option X) (next : X → Option Y) → ((x : X) → o ≡ Some x → IfSome (next x) P) → IfSome (o >>= next) P
bind P None next h = tt
bind P (Some x) next h = h x refl

mapped : {X Y : Type 0} (P : Y → Type 0) (o : Option X) (f : X → Y) → ((x : X) → o ≡ Some x → P (f x)) → IfSome (option_map f o) P
mapped P None f h = tt
mapped P (Some x) f h = h x refl

either : {Y : Type 0} (P : Y → Type 0) (b : Bool) (first second : Option Y) → IfSome first P → IfSome second P → IfSome (if b then first else second) P
either P true first second h g = h
either P false first second h g = g

-- what is known of an answer that is there
of : {Y : Type 0} (P : Y → Type 0) (o : Option Y) (y : Y) → IfSome o P → o ≡ Some y → P y
of {Y = Y} P o y h is = subst (λ (x : Option Y). IfSome x P) is h

-- the number of an option, or its default
number-within : (option : List ℕ) (least most default : ℕ) (words : List (List ℕ)) (found : Option ℕ) → IsWithin least most default
    → number_given option least most words ≡ Some found → IsWithin least most (unwrap_or found default)
number-within option least most default words found h is =
    unwrap_or-within least most default found h (optional_value-within least most (value_given option words) found is)

options_of-within : (words : List (List ℕ)) → IfSome (options_of words) AreInLimits
options_of-within words =
    bind AreInLimits (number_given (codes "--chunk=") 1 (2 ^ 24) words) _ (λ size of_size.
    bind AreInLimits (number_given (codes "--workers=") 1 16 words) _ (λ workers of_workers.
    bind AreInLimits (number_given (codes "--every=") 1 (2 ^ 24) words) _ (λ every of_every.
    bind AreInLimits (optional_value pad_named (value_given (codes "--pad=") words)) _ (λ pad of_pad.
    let in_size = number-within (codes "--chunk=") 1 (2 ^ 24) default_chunk_size words size (record { least_bound = omega arith; most_bound = omega arith }) of_size in
    let in_workers = number-within (codes "--workers=") 1 16 1 words workers (record { least_bound = omega arith; most_bound = omega arith }) of_workers in
    let in_every = optional_value-within 1 (2 ^ 24) (value_given (codes "--every=") words) every of_every in record {
      some_size = in_size.least_bound;
      size = in_size.most_bound;
      some_workers = in_workers.least_bound;
      workers = in_workers.most_bound;
      some_records = λ n e. (in_every n e).least_bound;
      every = λ n e. (in_every n e).most_bound;
    }))))

line_words_of-within : (options words : List (List ℕ)) → IfSome (line_words_of options words) (λ w. AreInLimits w.options)
unfolding line_words_of
line_words_of-within options words =
    bind (λ (w : WriteWords). AreInLimits w.options) (file_place options words) _ (λ file named.
    bind (λ (w : WriteWords). AreInLimits w.options) (options_of words) _ (λ how are. of AreInLimits (options_of words) how (options_of-within words) are))

append-within : (words : List (List ℕ)) → IfSome (append_command_of words) IsWithinLimits
append-within words =
    bind IsWithinLimits (line_words_of (codes "--cut" ∷ line_options) words) _ (λ lines are.
    of (λ (w : WriteWords). AreInLimits w.options) (line_words_of (codes "--cut" ∷ line_options) words) lines
    (line_words_of-within (codes "--cut" ∷ line_options) words) are)

recover-within : (words : List (List ℕ)) → IfSome (recover_command_of words) IsWithinLimits
unfolding recover_command_of
recover-within words =
    bind IsWithinLimits (file_place (codes "--recover" ∷ codes "--most=" ∷ codes "--hex" ∷ codes "--positions" ∷ []) words) _ (λ file named. bind IsWithinLimits (number_given (codes "--most=") 0 (2 ^ 62) words) _ (λ most bounded. tt))

show-within : (words : List (List ℕ)) → IfSome (show_command_of words) IsWithinLimits
unfolding show_command_of
show-within words =
    either IsWithinLimits (has_flag (codes "--recover") words) _ _ (recover-within words) (mapped IsWithinLimits (file_place (codes "--hex" ∷ codes "--positions" ∷ []) words) _ (λ file named. tt))

verify-within : (words : List (List ℕ)) → IfSome (verify_command_of words) IsWithinLimits
unfolding verify_command_of
verify-within words = mapped IsWithinLimits (file_place [] words) _ (λ file named. tt)

seek-within : (words : List (List ℕ)) → IfSome (seek_command_of words) IsWithinLimits
unfolding seek_command_of
seek-within words =
    bind IsWithinLimits (file_place (codes "--at=" ∷ codes "--key=" ∷ codes "--hex" ∷ []) words) _ (λ file named.
    bind IsWithinLimits (number_given (codes "--at=") 0 (2 ^ 64 - 1) words) _ (λ position given.
    bind IsWithinLimits (one_sought position (value_given (codes "--key=") words)) _ (λ by is. tt)))

repair-within : (words : List (List ℕ)) → IfSome (repair_command_of words) IsWithinLimits
unfolding repair_command_of
repair-within words =
    either IsWithinLimits (are_words_of (codes "--most=" ∷ []) words) _ None (
    bind IsWithinLimits (only_two (file_places words)) _ (λ files named.
    bind IsWithinLimits (number_given (codes "--most=") 0 (2 ^ 62) words) _ (λ most bounded.
    either IsWithinLimits (is_same_at words files.0 files.1) None _ tt tt))) tt

sample-within : (words : List (List ℕ)) → IfSome (sample_command_of words) IsWithinLimits
unfolding sample_command_of
sample-within words =
    bind IsWithinLimits (file_place (codes "--seed=" ∷ codes "--records=" ∷ codes "--chunk=" ∷ codes "--workers=" ∷ []) words) _ (λ file named.
    bind IsWithinLimits (options_of words) _ (λ how are.
    bind IsWithinLimits (value_given (codes "--seed=") words >>= number_within 0 (2 ^ 64 - 1)) _ (λ seed given.
    bind IsWithinLimits (value_given (codes "--records=") words >>= number_within 0 most_records) _ (λ count counted.
    let read = and_then_some (value_given (codes "--records=") words) (number_within 0 most_records) count counted in
    (of AreInLimits (options_of words) how (options_of-within words) are, (number_within-bounds 0 most_records read.0 count read.2).most_bound)))))

ranges-within : (words : List (List ℕ)) → IfSome (ranges_command_of words) IsWithinLimits
unfolding ranges_command_of
ranges-within words =
    bind IsWithinLimits (file_place (codes "--parts=" ∷ []) words) _ (λ file named.
    bind IsWithinLimits (value_given (codes "--parts=") words >>= number_within 1 16) _ (λ parts given.
    let read = and_then_some (value_given (codes "--parts=") words) (number_within 1 16) parts given in
    let bounds = number_within-bounds 1 16 read.0 parts read.2 in
    (bounds.least_bound, bounds.most_bound)))

command_of-within : (words : List (List ℕ)) → IfSome (command_of words) IsWithinLimits
command_of-within [] = tt
command_of-within (name ∷ words) =
    let all : List (List ℕ) = name ∷ words in
    either IsWithinLimits (bytes_eq name (codes "write")) _ _
    (mapped IsWithinLimits (line_words_of line_options all) Write (λ w are. of (λ (x : WriteWords). AreInLimits x.options) (line_words_of line_options all) w (line_words_of-within line_options all) are))
    (either IsWithinLimits (bytes_eq name (codes "show")) _ _ (show-within all)
    (either IsWithinLimits (bytes_eq name (codes "verify")) _ _ (verify-within all)
    (either IsWithinLimits (bytes_eq name (codes "seek")) _ _ (seek-within all)
    (either IsWithinLimits (bytes_eq name (codes "repair")) _ _ (repair-within all)
    (either IsWithinLimits (bytes_eq name (codes "sample")) _ _ (sample-within all)
    (either IsWithinLimits (bytes_eq name (codes "join")) _ _ (mapped IsWithinLimits (files_words_of 64 all) Join (files_words_of-within 64 all))
    (either IsWithinLimits (bytes_eq name (codes "ranges")) _ _ (ranges-within all)
    (either IsWithinLimits (bytes_eq name (codes "append")) _ _ (append-within all)
    (either IsWithinLimits (bytes_eq name (codes "collect")) _ None (mapped IsWithinLimits (files_words_of 16 all) Collect (files_words_of-within 16 all)) tt)))))))))

pub accepted-within : (words : List (List ℕ)) (count : ℕ) (command : Command) → Some command ≡ accepted words count → IsWithinLimits command
accepted-within words count command is =
    of IsWithinLimits (accepted words count) command (
    bind IsWithinLimits (command_of words) _ (λ known said.
    either IsWithinLimits (stores_of known == count) (Some known) None (of IsWithinLimits (command_of words) known (command_of-within words) said) tt)) (sym is)
