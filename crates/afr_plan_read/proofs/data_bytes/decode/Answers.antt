use Rattle.std.proofs.Common.{◌≡◌, ◌∙◌, ℕ, ◌*◌, ◌<◌, List, [], ◌∷◌, length, take, drop, refl, sym, arith, length-drop}
use Rattle.std.proofs.lemmas.List.{take_all, append-nil}
use Rattle.afr_plan.specs.Data.{hex_bytes}
use Rattle.afr_plan_read.proofs.data_bytes.decode.Goals as goal

short : (ds : List ℕ) → length ds < 2 → hex_bytes ds ≡ []
short [] l = refl
short (d ∷ []) l = refl
short (d ∷ e ∷ ds) l = absurd (omega arith)

pub returns : goal.returns
returns c =
    let all : take c.loop-i.i c.loop-i.bytes ≡ c.loop-i.bytes = take_all _ _ (omega arith) in
    let none : hex_bytes (drop (2 * c.loop-i.i) c.args.digits.now) ≡ [] = short _ (simp length-drop (omega arith)) in
    sym (append-nil c.loop-i.bytes) ∙ rw (all, none) at c.loop-i.invariant.1
