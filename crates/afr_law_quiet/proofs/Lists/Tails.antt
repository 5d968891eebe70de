-- What holds of a log holds of its first lines, and what a log shows stays.
use Rattle.std.proofs.Common.{◌≡◌, ℕ, zero, suc, ◌+◌, ◌<◌, ◌≤◌, ◌&&◌, ◌==◌, Bool, true, false, inl, inr, refl, sym, ◌∙◌, arith, List, [], ◌∷◌, ◌++◌, true≢false}
use Rattle.std.specs.Prelude.{nat_lt, if◌then◌else◌}
use Rattle.std.proofs.lemmas.Bool.Decides.{nat_tests}
use Rattle.afr_base.specs.Bricks.{member}
use Rattle.afr_base.specs.Kinds.{same_kind}
use Rattle.afr_base.specs.Majority.{IsMajority, count_below}
use Rattle.afr_base.specs.declared.ids.Gfid.{Gfid}
use Rattle.afr_base.specs.declared.ids.Kind.{Kind}
use Rattle.afr_lines.specs.Log.{EachLine}
use Rattle.afr_lines.specs.declared.line.Line.{Line}
use Rattle.afr_lines.specs.declared.line.Line.TheVariants.{Ask}
use Rattle.afr_lines.specs.declared.request.Request.TheVariants.{Post}
use Rattle.afr_plan.specs.declared.plan.Plan.{Plan}
use Rattle.afr_model.specs.Sums.{blames, has_object, pending_of, sum_over}
use Rattle.afr_law_tables.specs.Codes.{kept_by}
use Rattle.afr_law_tables.specs.TableLaws.{copy_stays}
use Rattle.afr_model_moves.specs.ByList.{IsExactLine}
use Rattle.afr_model_moves.specs.Discipline.{MayAskExactly}
use Rattle.afr_model_moves.specs.Heal.{Gives, Goes}
use Rattle.afr_model_moves.specs.Register.{Exact}
use Rattle.afr_law.specs.Beginning.{start_of}
use Rattle.afr_law.specs.Exactly.{IsLawfulExactly, name_bound}

pub each_tail : (P : Line → List Line → Type 0) (newer log : List Line) → EachLine P (newer ++ log) → EachLine P log
each_tail P [] log h = h
each_tail P (line ∷ newer) log h = each_tail P newer log h.1

-- an object that a brick has stays there
pub stays_more : (p : Plan) (newer log : List Line) (g : Gfid) (b : ℕ) → has_object p log g b ≡ true → has_object p (newer ++ log) g b ≡ true
stays_more p [] log g b h = h
stays_more p (line ∷ newer) log g b h = copy_stays p line (newer ++ log) b g (stays_more p newer log g b h)

count_more : (n : ℕ) (s t : ℕ → Bool) → ((b : ℕ) → b < n → s b ≡ true → t b ≡ true) → count_below n s ≤ count_below n t
count_more zero s t h = omega arith
count_more (suc n) s t h = step (s n) refl (t n) refl (count_more n s t (λ b low. h b (omega (arith, low))))
  where
    step : (x : Bool) → s n ≡ x → (y : Bool) → t n ≡ y → count_below n s ≤ count_below n t → (if x then 1 else 0) + count_below n s ≤ (if y then 1 else 0) + count_below n t
    step true e true f ih = omega (arith, ih)
    step true e false f ih = absurd (true≢false (sym (h n (omega arith) e) ∙ f))
    step false e true f ih = omega (arith, ih)
    step false e false f ih = omega (arith, ih)

-- more than a majority is one
pub most_more : (n : ℕ) (s t : ℕ → Bool) → ((b : ℕ) → b < n → s b ≡ true → t b ≡ true) → IsMajority n s → IsMajority n t
most_more n s t h m = (let k = count_more n s t h in omega (arith, k, m))

-- ---- nobody is accused that isn't of the volume
post_within : (n : ℕ) (keeps : ℕ → Kind → Bool) (r : Exact) (b at : ℕ) (g : Gfid) (kind : Kind) (missed : List ℕ) → MayAskExactly n keeps r b (Post at g kind missed) → (c : ℕ) → n ≤ c → member missed c ≡ false
post_within n keeps r b at g kind missed (inl w) c high = (let out : nat_lt c n ≡ false = grind (arith, nat_tests) in (w.1).exact c ∙ rw out refl)
post_within n keeps r b at g kind missed (inr (Goes m)) c high = absurd (true≢false (sym m.allowed))
post_within n keeps r b at g kind missed (inr (Gives inside broken free)) c high = absurd free

-- one where both tests hold
abbrev one_where : Bool → Bool → ℕ
one_where t m = if t then (if m then 1 else 0) else 0

line_within : (p : Plan) (line : Line) (older : List Line) → IsExactLine p.shape.n (start_of p (name_bound p)) line older → (x c : ℕ) (g : Gfid) (kind : Kind) → p.shape.n ≤ c → blames p x c g kind line older ≡ 0
line_within p (Ask a y (Post at h k missed) told took) older lawful x c g kind high =
    (let none = post_within p.shape.n (kept_by p) _ y.0 at h k missed (lawful.1).1 c high in go (member missed c) none (took && (y.0 == x) && (h.0 == g.0) && same_kind k kind && has_object p older g x))
  where
    go : (m : Bool) → m ≡ false → (t : Bool) → one_where t m ≡ 0
    go true e t = absurd (true≢false e)
    go false e true = refl
    go false e false = refl
line_within p (Ask a y r told took) older lawful x c g kind high = refl
line_within p line older lawful x c g kind high = refl

sum_within : (p : Plan) (log : List Line) → IsLawfulExactly p log → (x c : ℕ) (g : Gfid) (kind : Kind) → p.shape.n ≤ c → sum_over (blames p x c g kind) log ≡ 0
sum_within p [] lawful x c g kind high = refl
sum_within p (line ∷ older) lawful x c g kind high = (let here = line_within p line older lawful.0 x c g kind high in let rest = sum_within p older lawful.1 x c g kind high in omega (arith, here, rest))

pub none_far : (p : Plan) (log : List Line) → IsLawfulExactly p log → (x c : ℕ) (g : Gfid) (kind : Kind) → p.shape.n ≤ c → pending_of p log x c g kind ≡ 0
none_far p log lawful x c g kind high = (let none = sum_within p log lawful x c g kind high in omega (arith, none))
