-- Each of the five places is emptied.
use Rattle.std.proofs.Common.{◌≡◌, List, [], ◌∷◌, None, length, arith, refl, set}
use Rattle.afr_discipline.proofs.register.forget.Goals as goal

emptied : {A : Type 0} (n : A) (xs : List A) → length xs ≡ 5 → set (set (set (set (set xs 0 n) 1 n) 2 n) 3 n) 4 n ≡ n ∷ n ∷ n ∷ n ∷ n ∷ []
emptied n (a ∷ b ∷ c ∷ d ∷ e ∷ []) h = refl
emptied n xs h = absurd (omega (arith, h))

pub returns : goal.returns
returns c = rw (c.none-looked.ensures, emptied None c.args.looked.now.views c.has_five.ensures) refl
