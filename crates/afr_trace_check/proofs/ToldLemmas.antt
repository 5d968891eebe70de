-- What is told of a request, by whether the brick has the object.
use Rattle.std.proofs.Common.{◌≡◌, ◌∙◌, true, false, Option, Some, None, refl, ap, sym}
use Rattle.std.specs.Prelude.{is_some}
use Rattle.afr_base.specs.declared.ids.Gfid.{Gfid}
use Rattle.afr_lines.specs.Told.{told_by}
use Rattle.afr_lines.specs.declared.answer.Answer.{Answer}
use Rattle.afr_lines.specs.declared.answer.Answer.TheVariants as answer
use Rattle.afr_lines.specs.declared.answer.Told.{Told}
use Rattle.afr_lines.specs.declared.answer.Told.TheVariants as told
use Rattle.afr_model.specs.Honest.{copy_answer, copy_for}
use Rattle.afr_object.specs.Object.{Object}
use Rattle.afr_object.specs.Tables.{Table, copy_at, object_of}
use Rattle.afr_object.specs.declared.change.Change.{Change}

-- a copy that is there gives an answer that is told so
pub there_told : (f : Object → Answer) (x : Told) (o : Option Object) → ((w : Object) → told_by (f w) ≡ x) → is_some o ≡ true → x ≡ told_by (copy_answer f o)
there_told f x None h e = absurd (cc)
there_told f x (Some w) h e = sym (h w)

-- of a missing one it is told that there is no object
pub absent_told : (f : Object → Answer) (o : Option Object) → is_some o ≡ false → told.NoObject ≡ told_by (copy_answer f o)
absent_told f None e = refl
absent_told f (Some w) e = absurd (cc)

-- an attempt is done on the copy that its change is of
pub attempt_told : (found : Option Change) (t : Table) (change : Change) (g : Gfid) (r : Told) → Some change ≡ found → g ≡ object_of change → r ≡ told_by (copy_answer (λ o. answer.Done) (copy_at g t))
    → r ≡ told_by (copy_answer (λ o. answer.Done) (copy_for found t))
attempt_told found t change g r here same h = h ∙ ap (λ (x : Gfid). told_by (copy_answer (λ o. answer.Done) (copy_at x t))) same ∙ ap (λ (x : Option Change). told_by (copy_answer (λ o. answer.Done) (copy_for x t))) here

-- without an attempt nothing is there
pub no_attempt_told : (found : Option Change) (t : Table) → None ≡ found → told.NoObject ≡ told_by (copy_answer (λ o. answer.Done) (copy_for found t))
no_attempt_told found t none = ap (λ (x : Option Change). told_by (copy_answer (λ o. answer.Done) (copy_for x t))) none
