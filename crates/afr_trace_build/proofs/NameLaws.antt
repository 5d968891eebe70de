-- The names of a text, one at a time.
use Rattle.std.proofs.Common.{◌≡◌, ℕ, ◌<◌, List, [], ◌∷◌, ◌++◌, length, Option, Some, None, refl, sym, ap, ◌∙◌, arith, append_assoc}
use Rattle.std.specs.Prelude.{option_map}
use Rattle.std.proofs.lemmas.List.{append-nil}
use Rattle.afr_base.specs.declared.ids.NameId.{NameId}
use Rattle.afr_plan.specs.declared.plan.Plan.{Plan}
use Rattle.afr_trace_read.specs.Contents.{and_more, name_behind, names_on, names_told}
use Rattle.afr_trace_read.proofs.NamesLaws.{told_one}

-- names before others
abbrev pub behind : List NameId → List NameId → List NameId
behind names more = names ++ more

pub told_start : (o : Option (List NameId)) → option_map (behind []) o ≡ o
told_start None = refl
told_start (Some names) = refl

one_more : (names : List NameId) (name : NameId) (o : Option (List NameId)) → option_map (behind (names ++ name ∷ [])) o ≡ option_map (behind names) (option_map (λ (l : List NameId). name ∷ l) o)
one_more names name None = refl
one_more names name (Some more) = ap (λ (l : List NameId). Some l) (append_assoc names (name ∷ []) more)

pub told_more : (p : Plan) (last : Option NameId) (rest more : List ℕ) (name : NameId) (names : List NameId) → Some (name, more) ≡ name_behind p last rest
    → option_map (behind (names ++ name ∷ [])) (names_told p (Some name) more) ≡ option_map (behind names) (names_told p last rest)
told_more p last rest more name names e = one_more names name (names_told p (Some name) more) ∙ sym (ap (option_map (behind names)) (told_one p last rest more name e))

pub told_none : (p : Plan) (last : Option NameId) (rest : List ℕ) (names : List NameId) → None ≡ name_behind p last rest → 0 < length rest → option_map (behind names) (names_told p last rest) ≡ None
told_none p last [] names e some = absurd (omega (arith, some))
told_none p last (b ∷ bs) names e some = ap (λ (o : Option (NameId × List ℕ)). option_map (behind names) (and_more o (λ next rest. names_on p (length bs) (Some next) rest))) (sym e)

pub told_end : (p : Plan) (last : Option NameId) (rest : List ℕ) (names : List NameId) → length rest ≡ 0 → option_map (behind names) (names_told p last rest) ≡ Some names
told_end p last [] names e = ap (λ (l : List NameId). Some l) (append-nil names)
told_end p last (b ∷ bs) names e = absurd (omega (arith, e))
