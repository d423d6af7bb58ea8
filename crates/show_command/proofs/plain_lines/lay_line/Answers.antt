use Rattle.std.proofs.Common.{◌≡◌, ◌∙◌, ℕ, ◌+◌, ◌<◌, List, [], ◌∷◌, ◌++◌, length, take, set, ap, arith, append_assoc, length-append, length-drop}
use Rattle.std.proofs.lemmas.Grind.{take-set_at}
use Rattle.std.proofs.lemmas.Slice.{take-put_mid}
use Rattle.std.proofs.lemmas.List.{length-take}
use borrow.Rule.Slice.PartMut.{put_mid}
use Rattle.show_command.proofs.plain_lines.lay_line.Goals as goal

-- bytes that were copied to a place, and a newline behind them
line_laid : (page rec copied : List ℕ) (at k : ℕ) → copied ≡ rec → k ≡ length rec → at + length rec < length page
    → take (at + (length rec + 1)) (set (put_mid at k page copied) (at + length rec) 10) ≡ take at page ++ (rec ++ 10 ∷ [])
line_laid page rec copied at k same size within =
    let as_long : length copied ≡ length rec = ap length same in
    take-set_at (put_mid at k page copied) (at + length rec) (at + (length rec + 1)) 10 (omega arith)
    (omega (arith, length-append {A = ℕ}, length-take {A = ℕ}, length-drop {A = ℕ}))
    ∙ ap (λ (xs : List ℕ). xs ++ 10 ∷ [])
    (take-put_mid at k page copied (at + length rec) (omega arith) (omega arith) ∙ ap (λ (xs : List ℕ). take at page ++ xs) same)
    ∙ append_assoc (take at page) rec (10 ∷ [])

pub returns : goal.returns
returns c = line_laid c.args.page.now c.args.rec.now c.copy_from_slice.new.self c.args.at _ c.copy_from_slice.ensures.after (omega arith) (omega arith)
