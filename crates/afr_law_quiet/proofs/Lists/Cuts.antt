-- The line at a position of a log, with the lines before it.
use Rattle.std.proofs.Common.{◌≡◌, ℕ, suc, ◌<◌, ◌==◌, Bool, true, false, refl, sym, ◌∙◌, subst, ap, arith, List, [], ◌∷◌, length, Some, true≢false}
use Rattle.std.proofs.lemmas.Bool.{eqb-true}
use Rattle.std.proofs.lemmas.Bool.Decides.{nat_tests}
use Rattle.afr_lines.specs.declared.line.Line.{Line}
use Rattle.afr_plan.specs.declared.plan.Plan.{Plan}
use Rattle.afr_model_moves.proofs.ByPosition.{IsPast}
use Rattle.afr_model_moves.specs.Past.{Log}
use Rattle.afr_law_quiet.proofs.Lists.Premises.{Sound, sound_before}

-- the lines before a position, and that they and its line are such as the law presumes
pub record Cut (p : Plan) (L : Log) (q : ℕ) (line : Line) : Type 0 where
  pub older : List Line
  pub at : length older ≡ q
  pub sound : Sound p (line ∷ older)
  pub past : IsPast L (line ∷ older)

pub cut_of : (p : Plan) (L : Log) (log : List Line) → IsPast L log → Sound p log → (q : ℕ) (line : Line) → q < length log → L q ≡ Some line → Cut p L q line
cut_of p L [] past s q line low is = absurd (omega (arith, low))
cut_of p L (first ∷ older) past s q line low is = go (q == length older) refl (λ less. cut_of p L older past.1 (sound_before p first older s) q line less is)
  where
    some_is : (x y : Line) → Some x ≡ Some y → x ≡ y
    some_is x y e = cc e

    less : (q m : ℕ) → (q == m) ≡ false → q < suc m → q < m
    less q m e low = grind (arith, nat_tests)

    go : (same : Bool) → (q == length older) ≡ same → (q < length older → Cut p L q line) → Cut p L q line
    go true e rest = (
        let at : q ≡ length older = eqb-true q (length older) e in
        let line_is : first ≡ line = some_is first line (sym past.0 ∙ ap L (sym at) ∙ is) in
        record { older = older; at = sym at; sound = subst (λ (l : Line). Sound p (l ∷ older)) line_is s; past = subst (λ (l : Line). IsPast L (l ∷ older)) line_is past }
        )
    go false e rest = rest (less q (length older) e low)
