-- The words of the samples: three bricks, a client that sets an attribute of the root, and three such changes of which each brick misses one.
use Rattle.std.proofs.Common.{◌≡◌, ℕ, ◌<◌, ◌&&◌, ◌||◌, ◌==◌, Bool, true, false, not, refl, sym, ◌∙◌, ap, subst, List, [], ◌∷◌, true≢false}
use Rattle.std.specs.Prelude.{Option, Some}
use Rattle.std.proofs.lemmas.Bool.{eqb-true}
use Rattle.afr_base.specs.Bricks.{from_table, member, passes_below}
use Rattle.afr_base.specs.declared.ids.KeyId.{KeyId}
use Rattle.afr_base.specs.declared.ids.Kind.TheVariants.{Attrs}
use Rattle.afr_object.specs.Tables.{root}
use Rattle.afr_object.specs.declared.change.Change.{Change}
use Rattle.afr_object.specs.declared.change.Change.TheVariants.{SetAttr}
use Rattle.afr_lines.specs.Log.{from_oldest}
use Rattle.afr_lines.specs.declared.answer.Told.{Told}
use Rattle.afr_lines.specs.declared.answer.Told.TheVariants.{Done}
use Rattle.afr_lines.specs.declared.line.Line.{Line}
use Rattle.afr_lines.specs.declared.line.Line.TheVariants.{Ask, Begin, End}
use Rattle.afr_lines.specs.declared.reply.Good.TheVariants as good
use Rattle.afr_lines.specs.declared.reply.Reply.{Reply}
use Rattle.afr_lines.specs.declared.reply.Reply.TheVariants.{Ok}
use Rattle.afr_lines.specs.declared.request.Request.{Request}
use Rattle.afr_lines.specs.declared.request.Request.TheVariants.{Apply, Post}
use Rattle.afr_plan.specs.declared.plan.Plan.{Plan}

-- three bricks without an arbiter, and no opening file
abbrev pub three : Plan → Plan
three q = record q { shape = record { n = 3; arbiter = false }; files = 0 }

-- an attribute of the root
abbrev pub key : KeyId
key = record { 0 = 7 }

-- the change that sets it
abbrev pub sets : ℕ → Change
sets value = SetAttr root key (record { 0 = value })

-- client 1 asks a brick
abbrev pub asks : ℕ → Request → Told → Line
asks b request told = Ask (record { 0 = 1 }) (record { 0 = b }) request told true

-- which does what it is asked
abbrev pub done : ℕ → Request → Line
done b request = asks b request Done

-- the client begins a change
abbrev pub begins : ℕ → Line
begins value = Begin (record { 0 = 1 }) (sets value)

-- and ends its command
abbrev pub says : Reply → Line
says reply = End (record { 0 = 1 }) reply

abbrev pub ok : Reply
ok = Ok good.Done

-- the first change, done at bricks 0 and 1
abbrev pub first : List Line
first = says ok ∷ done 1 (Post 0 root Attrs (2 ∷ [])) ∷ done 0 (Post 0 root Attrs (2 ∷ [])) ∷ done 1 (Apply 0) ∷ done 0 (Apply 0) ∷ begins 1 ∷ []

-- and the second, done at bricks 1 and 2
abbrev pub second : List Line
second = says ok ∷ done 2 (Post 6 root Attrs (0 ∷ [])) ∷ done 1 (Post 6 root Attrs (0 ∷ [])) ∷ done 2 (Apply 6) ∷ done 1 (Apply 6) ∷ begins 2 ∷ first

-- and the third, done at bricks 0 and 2: each change is acknowledged, and in the end every copy is accused
abbrev pub split : List Line
split = says ok ∷ done 2 (Post 12 root Attrs (1 ∷ [])) ∷ done 0 (Post 12 root Attrs (1 ∷ [])) ∷ done 2 (Apply 12) ∷ done 0 (Apply 12) ∷ begins 3 ∷ second

-- all three bricks
abbrev pub everybody : List ℕ
everybody = 0 ∷ 1 ∷ 2 ∷ []

-- what holds of bricks 0 and 1 holds of each of the two
pub each_of_two : (P : ℕ → Type 0) → P 0 → P 1 → (b : ℕ) → member (0 ∷ 1 ∷ []) b ≡ true → P b
each_of_two P x y b inside = go (0 == b) refl (1 == b) refl inside
  where
    go : (u : Bool) → (0 == b) ≡ u → (v : Bool) → (1 == b) ≡ v → (u || (v || false)) ≡ true → P b
    go true e v f h = subst P (eqb-true 0 b e) x
    go false e true f h = subst P (eqb-true 1 b f) y
    go false e false f h = absurd (true≢false (sym h))

-- values of which a test passes one alone aren't equal
pub told_apart : {A : Type 0} (test : A → Bool) (one another : A) → test one ≡ true → test another ≡ false → one ≡ another → ⊥
told_apart test one another first second same = absurd (cc (sym first ∙ ap test same ∙ second))

-- whether a line tells that a brick did the operation of an attempt
abbrev pub did : ℕ → ℕ → Option Line → Bool
did b q (Some (Ask a x (Apply k) Done took)) = (x.0 == b) && (k == q)
did b q line = false

-- no line before a position tells so
pub none_did : (log : List Line) (b q n : ℕ) → passes_below n (λ m. not (did b q (from_oldest m log))) ≡ true → (m : ℕ) (line : Line) → m < n → from_oldest m log ≡ Some line → did b q (Some line) ≡ true → ⊥
none_did log b q n all m line low e hit = true≢false (sym (from_table n (λ k. not (did b q (from_oldest k log))) all m low) ∙ ap (λ (l : Option Line). not (did b q l)) e ∙ ap not hit)
