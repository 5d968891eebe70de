-- What a line adds to an actor's present work.
use Rattle.std.proofs.Common.{◌≡◌, ℕ, true, false, refl, List, [], ◌∷◌}
use Rattle.afr_lines.specs.Work.{is_end, is_of, work}
use Rattle.afr_lines.specs.declared.line.Line.{Line}

pub work_more : (a : ℕ) (line : Line) (older : List Line) → is_of a line ≡ true → is_end line ≡ false → work a (line ∷ older) ≡ (line, older) ∷ work a older
work_more a line older mine going = rw (mine, going) refl

pub work_other : (a : ℕ) (line : Line) (older : List Line) → is_of a line ≡ false → work a (line ∷ older) ≡ work a older
work_other a line older other = rw other refl

pub work_ended : (a : ℕ) (line : Line) (older : List Line) → is_of a line ≡ true → is_end line ≡ true → work a (line ∷ older) ≡ []
work_ended a line older mine over = rw (mine, over) refl
