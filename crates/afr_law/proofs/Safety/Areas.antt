-- Areas that cover one cell overlap.
use Rattle.afr_lines.specs.Overlap.{overlap}
use Rattle.std.proofs.Common.{◌≡◌, true, arith}
use Rattle.std.proofs.lemmas.Bool.Decides.{nat_tests}
use Rattle.afr_lines.specs.declared.request.Area.{Area}
use Rattle.afr_lines.specs.declared.request.Area.TheVariants.{Range, Name}
use Rattle.afr_model_moves.specs.Cells.{Cell, Byte, Attr, Entry, covers}

pub overlap-covers : (a b : Area) (cell : Cell) → covers a cell ≡ true → covers b cell ≡ true → overlap a b ≡ true
unfolding covers
overlap-covers (Range g f t) (Range h s e) (Byte o i) p q = grind (arith, nat_tests)
overlap-covers (Range g f t) (Range h s e) (Attr o i) p q = grind (arith, nat_tests)
overlap-covers (Name g a) (Name h b) (Entry o n) p q = grind (arith, nat_tests)
overlap-covers _ _ (Byte o i) p q = cc
overlap-covers _ _ (Attr o i) p q = cc
overlap-covers _ _ (Entry o i) p q = cc
