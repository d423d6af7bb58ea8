-- The answers of `ranges`, judged by hand, computed from the definitions.
use Rattle.command_frame.specs.Endings.{ArePast}
use Rattle.std.proofs.Common.{◌≡◌, [], ◌∷◌, codes, refl, arith}
use Rattle.std.specs.Fmt.{digits}
use Rattle.command_frame.specs.FileAnswers.{AreWithin}
use Rattle.record_ranges.specs.RangesCommand.{AreAlike, Differ, differ_text, most_range_bytes}

-- sizes that differ: the first, and the first that is another
second_differs : Differ (196 ∷ 112 ∷ []) 196 112
second_differs = (refl, refl)

third_differs : Differ (196 ∷ 196 ∷ 64 ∷ 112 ∷ []) 196 64
third_differs = (refl, refl)

differ_line : differ_text 196 112 ≡ codes "size 196 112\n"
unfolding digits
differ_line = refl

-- a size may be the limit, and not one more
at_limit : AreWithin most_range_bytes (112 ∷ 268435456 ∷ [])
at_limit = (omega arith, (omega arith, tt))

past_limit : ArePast (AreWithin most_range_bytes) (112 ∷ 268435457 ∷ [])
past_limit = λ within. omega (arith, within.1.0)

alike : AreAlike 112 (112 ∷ 112 ∷ [])
alike = record { some = omega arith; same = (refl, (refl, tt)); within = omega arith }
