-- The copies that the read rule chooses from, and the one that it picks.
use Rattle.std.proofs.Common.{zero, suc, slice_get, ◌≡◌, ℕ, ◌<◌, ◌==◌, ◌||◌, Bool, true, false, List, [], ◌∷◌, refl, sym, ap, ◌∙◌, arith, map, length, subst, if◌then◌else◌, Option, None, Some}
use Rattle.std.proofs.lemmas.Bool.Decides.{nat_tests}
use Rattle.std.proofs.lemmas.Bool.{or_right}
use Rattle.afr_base.specs.Bricks.{is_nothing, member}
use Rattle.afr_base.specs.declared.ids.BrickId.{BrickId}
use Rattle.afr_base.specs.declared.ids.Kind.{Kind}
use Rattle.afr_base.specs.declared.ids.Shape.{Shape}
use Rattle.afr_choice.specs.Verdict.{good_copies, verdict_of}
use Rattle.afr_choice.specs.VerdictLemmas.{good_below, sources_say}
use Rattle.afr_choice.specs.declared.looked.Looked.{Looked}
use Rattle.afr_choice.specs.declared.verdict.Verdict.{Verdict}
use Rattle.afr_choice.specs.declared.verdict.Verdict.TheVariants.{Sources}
use Rattle.afr_rule.specs.Choosing.{Calls, IsPick}
use Rattle.afr_rule.specs.Copies.{copy_in}
use Rattle.afr_rule.specs.declared.candidate.Candidate.{Candidate}
use Rattle.afr_client_walk.specs.Choosing.{IsAmong, RuleAnswers, candidates_of, choices, has_sources, offers, reader_of}

pub offers_map : (looked : Looked) (s : List ℕ) (b : ℕ) → offers (map (copy_in looked) s) b ≡ member s b
offers_map looked [] b = refl
offers_map looked (x ∷ xs) b = ap (λ (rest : Bool). (x == b) || rest) (offers_map looked xs b)

-- where there is a good copy, there is one to choose from
pub some_listed : (looked : Looked) (s : List ℕ) → is_nothing s ≡ false → 0 < length (map (copy_in looked) s)
some_listed looked [] h = absurd (cc h)
some_listed looked (x ∷ xs) h = omega arith

offers_found : (from : List Candidate) (i : ℕ) (candidate : Candidate) → slice_get from i ≡ Some candidate → offers from candidate.brick.0 ≡ true
offers_found [] i candidate e = absurd (cc e)
offers_found (x ∷ from) zero candidate e =
    let is : x ≡ candidate = cc e in
    subst (λ (c : Candidate). ((x.brick.0 == c.brick.0) || offers from c.brick.0) ≡ true) is (here x.brick.0 (offers from x.brick.0))
  where
    here : (b : ℕ) (rest : Bool) → ((b == b) || rest) ≡ true
    here b rest = let e : (b == b) ≡ true = grind (arith, nat_tests) in rw e refl
offers_found (x ∷ from) (suc i) candidate e = or_right (x.brick.0 == candidate.brick.0) (offers from candidate.brick.0) (offers_found from i candidate e)

-- what a rule picks is one of the copies
pub pick_offers : {F : Type 0} (calls : Calls F) (choose : F) (from : List Candidate) (b : BrickId) → IsPick calls choose from b → offers from b.0 ≡ true
pick_offers calls choose from b w = subst (λ (x : BrickId). offers from x.0 ≡ true) (sym w.4) (offers_found from w.0 w.1 w.3)

-- so is what it answers, where it was asked
pub answers_among : {F : Type 0} (calls : Calls F) (choose : F) (from : List Candidate) (picked : Option BrickId) → RuleAnswers calls choose from picked → IsAmong from (reader_of picked)
answers_among calls choose from None e = λ l. absurd (none from e l)
  where
    none : (from : List Candidate) → from ≡ [] → 0 < length from → ⊥
    none [] e l = omega (arith, l)
    none (x ∷ xs) e l = cc e
answers_among calls choose from (Some b) w = λ l. pick_offers calls choose from b w

-- one of the candidates is a good copy
pub among_good : (shape : Shape) (looked : Looked) (kind : Kind) (b : BrickId) → is_nothing (good_copies shape looked kind) ≡ false → IsAmong (candidates_of shape looked kind) b → member (good_copies shape looked kind) b.0 ≡ true
among_good shape looked kind b some among = sym (offers_map looked (good_copies shape looked kind) b.0) ∙ among (some_listed looked (good_copies shape looked kind) some)

-- there is some brick to choose
pub some_among : (from : List Candidate) → (b : BrickId) × IsAmong from b
some_among [] = (record { 0 = 0 }, λ l. absurd (omega (arith, l)))
some_among (x ∷ from) = (x.brick, λ l. offers_found (x ∷ from) zero x refl)

-- it is on one of the five bricks
pub pick_small : {F : Type 0} (calls : Calls F) (choose : F) (shape : Shape) (looked : Looked) (kind : Kind) (b : BrickId) → IsPick calls choose (candidates_of shape looked kind) b → b.0 < 5
pick_small calls choose shape looked kind b w = good_below shape looked kind b.0 (sym (offers_map looked (good_copies shape looked kind) b.0) ∙ pick_offers calls choose (candidates_of shape looked kind) b w)

-- where the verdict has sources, there is a good copy
pub sources_some : (shape : Shape) (looked : Looked) (kind : Kind) (verdict : Verdict) (s : List ℕ) → verdict ≡ verdict_of shape looked kind → verdict ≡ Sources s → is_nothing (good_copies shape looked kind) ≡ false
sources_some shape looked kind verdict s judged is = let says = sources_say shape looked kind s (sym judged ∙ is) in subst (λ (t : List ℕ). is_nothing t ≡ false) says.1 says.2

-- they are the good copies
pub sources_good : (shape : Shape) (looked : Looked) (kind : Kind) (verdict : Verdict) (s : List ℕ) → verdict ≡ verdict_of shape looked kind → verdict ≡ Sources s → s ≡ good_copies shape looked kind
sources_good shape looked kind verdict s judged is = (sources_say shape looked kind s (sym judged ∙ is)).1

-- so where the verdict has sources, the chosen copy is a good one
pub source_good : (shape : Shape) (looked : Looked) (kind : Kind) (s : List ℕ) (b : BrickId) → verdict_of shape looked kind ≡ Sources s → IsAmong (choices shape looked kind) b → member (good_copies shape looked kind) b.0 ≡ true
source_good shape looked kind s b e among =
    among_good shape looked kind b (sources_some shape looked kind _ s refl e) (subst (λ v. IsAmong (if has_sources v then candidates_of shape looked kind else []) b) e among)
