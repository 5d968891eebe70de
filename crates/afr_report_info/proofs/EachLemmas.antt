-- One object more of a list: its text, and how many of its kinds are split.
use Rattle.std.proofs.Common.{◌≡◌, ℕ, ◌+◌, ◌*◌, ◌<◌, ◌≤◌, List, ◌∷◌, ◌++◌, length, get_or, drop, ap, ◌∙◌, sym, arith, append_assoc, drop-cons, add-one}
use Rattle.afr_base.specs.declared.ids.Gfid.{Gfid}
use Rattle.afr_base.specs.declared.ids.What.{What}
use Rattle.afr_plan.specs.declared.plan.Plan.{Plan}
use Rattle.afr_server.specs.Serving.{Serving}
use Rattle.afr_model.specs.ReportObjects.{splits_of}
use Rattle.afr_report_info.specs.Shown.{lines_shown, object_text, shown, splits_shown}

next_of : (objects : List (Gfid × What)) (i : ℕ) (d : Gfid × What) → i < length objects → drop i objects ≡ get_or objects i d ∷ drop (i + 1) objects
next_of objects i d l = drop-cons objects i d l ∙ ap (λ (k : ℕ). get_or objects i d ∷ drop k objects) (sym (add-one i))

module _ (p : Plan) (servers : List Serving) (among : List ℕ) (objects : List (Gfid × What)) (i : ℕ) (d : Gfid × What) (l : i < length objects) where
  pub lines_step : (before next whole : List ℕ) → next ≡ before ++ object_text p (shown servers among (get_or objects i d).0) among (get_or objects i d).0
      → before ++ lines_shown p servers among (drop i objects) ≡ whole → next ++ lines_shown p servers among (drop (i + 1) objects) ≡ whole
  lines_step before next whole grown h =
      ap (λ (t : List ℕ). t ++ lines_shown p servers among (drop (i + 1) objects)) grown
      ∙ append_assoc before (object_text p (shown servers among (get_or objects i d).0) among (get_or objects i d).0) (lines_shown p servers among (drop (i + 1) objects))
      ∙ ap (λ (xs : List (Gfid × What)). before ++ lines_shown p servers among xs) (sym (next_of objects i d l))
      ∙ h

  pub splits_step : (before more whole : ℕ) → more ≡ splits_of p (shown servers among (get_or objects i d).0)
      → before + splits_shown p servers among (drop i objects) ≡ whole → before + more + splits_shown p servers among (drop (i + 1) objects) ≡ whole
  splits_step before more whole counted h =
      ap (λ (n : ℕ). before + n + splits_shown p servers among (drop (i + 1) objects)) counted
      ∙ grouped before (splits_of p (shown servers among (get_or objects i d).0)) (splits_shown p servers among (drop (i + 1) objects))
      ∙ ap (λ (xs : List (Gfid × What)). before + splits_shown p servers among xs) (sym (next_of objects i d l))
      ∙ h
    where
      grouped : (a b c : ℕ) → a + b + c ≡ a + (b + c)
      grouped a b c = omega arith

pub few_step : (before more i : ℕ) → before ≤ 3 * i → more ≤ 3 → before + more ≤ 3 * (i + 1)
few_step before more i h k = omega arith

-- the parts of a text that was added piece by piece
pub pieces : (before first lines word count last : List ℕ) → ((before ++ first) ++ lines) ++ ((word ++ count) ++ last) ≡ before ++ ((((first ++ lines) ++ word) ++ count) ++ last)
pieces before first lines word count last = simp append_assoc
