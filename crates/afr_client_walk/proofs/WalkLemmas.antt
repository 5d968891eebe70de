-- Every step of a walk has somebody left to ask, and its register is one of free lines.
use Rattle.std.proofs.Common.{◌≡◌, ℕ, ◌+◌, ◌<◌, ◌≤◌, ◌==◌, Bool, true, false, not, List, [], ◌∷◌, refl, arith, length, map, Option, Some, None, if◌then◌else◌, inl, inr, ◌⊎◌, ◌≢◌, ap, sym, subst, ◌∙◌}
use Rattle.std.proofs.lemmas.Bool.Decides.{eqb_tells}
use Rattle.afr_base.specs.Bricks.{below, lowest, is_nothing, IsWithin}
use Rattle.afr_base.specs.Majority.{is_majority}
use Rattle.afr_base.specs.SetLemmas.{lowest_left, below_some, within_below, within_added_if, within_removed_if}
use Rattle.afr_base.specs.declared.ids.Kind.{Kind}
use Rattle.afr_base.specs.declared.ids.Kind.TheVariants.{Names}
use Rattle.afr_base.specs.declared.ids.NameId.{NameId}
use Rattle.afr_base.specs.declared.ids.Shape.{Shape}
use Rattle.afr_object.specs.Tables.{is_dir, root_entry}
use Rattle.afr_object.specs.declared.entry.Entry.{Entry}
use Rattle.afr_object.specs.declared.entry.View.{View}
use Rattle.afr_choice.specs.Verdict.{verdict_of, good_copies, copies_of}
use Rattle.afr_choice.specs.VerdictLemmas.{good_are_holders, holders_are_reached}
use Rattle.afr_choice.specs.declared.looked.Looked.{Looked}
use Rattle.afr_choice.specs.declared.verdict.Verdict.{Verdict}
use Rattle.afr_choice.specs.declared.verdict.Verdict.TheVariants.{Short, Bare, Split, Sources}
use Rattle.afr_lines.specs.Told.{told_by}
use Rattle.afr_lines.specs.declared.answer.Answer.{Answer}
use Rattle.afr_lines.specs.declared.answer.Answer.TheVariants as answer
use Rattle.afr_lines.specs.declared.answer.Told.{Told}
use Rattle.afr_lines.specs.declared.answer.Told.TheVariants as as_told
use Rattle.afr_lines.specs.declared.line.Next.TheVariants as next
use Rattle.afr_lines.specs.declared.request.Request.{Request}
use Rattle.afr_base.specs.declared.ids.BrickId.{BrickId}
use Rattle.afr_rule.specs.Choosing.{Calls}
use Rattle.afr_rule.specs.Copies.{copy_in}
use Rattle.afr_rule.specs.declared.candidate.Candidate.{Candidate}
use Rattle.afr_client_walk.specs.Choosing.{IsAmong, RuleAnswers, choices, choices_after, has_sources}
use Rattle.afr_discipline.specs.Free.{AllowsAsk, is_free}
use Rattle.afr_client_walk.specs.Looks.{no_look, left_to_look, noted_look, heard_look, IsLooks}
use Rattle.afr_client_walk.specs.Walk.{step_at, walk_from, is_walking, next_in, next_at, verdict_step, after_looks, choices_at, choices_of, named, noted, walked, walked_at, IsStep, IsWalk}
use Rattle.afr_client_walk.specs.declared.looks.Looks.{Looks}
use Rattle.afr_client_walk.specs.declared.stop.Stop.TheVariants.{NotDir}
use Rattle.afr_client_walk.specs.declared.walk.Walk.{Walk}
use Rattle.afr_client_walk.specs.declared.walk.WalkStep.{WalkStep}
use Rattle.afr_client_walk.specs.declared.walk.WalkStep.TheVariants.{Looking, Naming, Arrived, Stopped}
use Rattle.afr_client_walk.proofs.ChoosingLemmas.{offers_map}
use Rattle.afr_discipline.proofs.FreeLemmas.{allows_free, stays_free}

-- ---- looks
-- nobody was asked, and there is some brick
pub no_look_is : (n : ℕ) → 0 < n → IsLooks n no_look
no_look_is n some = record { left = below_some n some; reached = λ b m. absurd (cc m) }

-- the brick that is asked is one of the volume
pub asked_below : (n : ℕ) (s : Looks) → is_nothing (left_to_look n s) ≡ false → lowest (left_to_look n s) < n
asked_below n s left = within_below n _ (lowest_left (below n) s.asked left).1

reached_more : (n b : ℕ) (told : Told) (looked : Looked) → b < n → IsWithin n looked.reached → IsWithin n (noted_look b told looked).reached
reached_more n b (as_told.Seen view) looked l h = within_added_if n b looked.reached true l h
reached_more n b as_told.NoObject looked l h = within_added_if n b looked.reached true l h
reached_more n b told looked l h = within_removed_if n b looked.reached true h

-- those that answered are bricks of the volume
pub heard_within : (n : ℕ) (told : Told) (s : Looks) → IsLooks n s → IsWithin n (heard_look n told s).looked.reached
heard_within n told s k = reached_more n (lowest (left_to_look n s)) told s.looked (asked_below n s k.left) k.reached

-- ---- verdicts
-- the brick that was chosen is below n, where the verdict has sources
abbrev pub HasLow : ℕ → BrickId → Verdict → Type 0
HasLow n chosen (Sources s) = chosen.0 < n
HasLow n chosen other = Unit {0}

-- one of the good copies is on a brick that answered
pub low : (shape : Shape) (looked : Looked) (kind : Kind) (chosen : BrickId) → IsWithin shape.n looked.reached → IsAmong (choices shape looked kind) chosen → HasLow shape.n chosen (verdict_of shape looked kind)
low shape looked kind chosen within among = go (is_majority shape.n looked.reached) (is_nothing (copies_of shape looked kind)) (good_copies shape looked kind)
    (λ b m. within b (holders_are_reached looked b (good_are_holders shape looked kind b m))) among
  where
    go : (a b : Bool) (t : List ℕ) → IsWithin shape.n t
        → IsAmong (if has_sources (if not a then Short else (if b then Bare else (if is_nothing t then Split else Sources t))) then map (copy_in looked) t else []) chosen
        → HasLow shape.n chosen (if not a then Short else (if b then Bare else (if is_nothing t then Split else Sources t)))
    go false b t w h = tt
    go true true t w h = tt
    go true false [] w h = tt
    go true false (x ∷ xs) w h = w chosen.0 (sym (offers_map looked (x ∷ xs) chosen.0) ∙ h (omega arith))

-- ---- steps
pub is_step_at : (n names read : ℕ) (object : Entry) → 0 < n → read ≤ names → IsStep n names read (step_at names read object)
is_step_at n names read object some within = go (read == names) (is_dir object.what) (eqb_tells read names)
  where
    go : (e d : Bool) → (e ≡ true) × (read ≡ names) ⊎ (e ≡ false) × (read ≢ names) → IsStep n names read (if e then Arrived else (if d then Looking no_look else Stopped NotDir))
    go true d (inl h) = h.1
    go true d (inr h) = absurd (cc h.0)
    go false d (inl h) = absurd (cc h.0)
    go false true (inr h) = let other = h.1 in (no_look_is n some, omega (arith, within, other))
    go false false (inr h) = tt

is_verdict_step : (n names read : ℕ) (chosen : BrickId) (v : Verdict) (views : List (Option View)) → read < names → HasLow n chosen v → IsStep n names read (verdict_step chosen v views)
is_verdict_step n names read chosen Short views l h = tt
is_verdict_step n names read chosen Bare views l h = tt
is_verdict_step n names read chosen Split views l h = tt
is_verdict_step n names read chosen (Sources s) views l h = (h, l)

pub is_after_looks : (shape : Shape) (names read : ℕ) (chosen : BrickId) (s : Looks) → IsWithin shape.n s.looked.reached → read < names → IsAmong (choices_after shape Names s) chosen
    → IsStep shape.n names read (after_looks chosen shape s)
is_after_looks shape names read chosen s within l among = go (is_nothing (left_to_look shape.n s)) refl among
  where
    go : (e : Bool) → is_nothing (left_to_look shape.n s) ≡ e → IsAmong (if e then choices shape s.looked Names else []) chosen
        → IsStep shape.n names read (if e then verdict_step chosen (verdict_of shape s.looked Names) s.looked.views else Looking s)
    go true k h = is_verdict_step shape.n names read chosen (verdict_of shape s.looked Names) s.looked.views l (low shape s.looked Names chosen within h)
    go false k h = (record { left = k; reached = within }, l)

-- the verdict, once all were asked
pub over_judged : (chosen : BrickId) (shape : Shape) (s : Looks) (v : Verdict) → is_nothing (left_to_look shape.n s) ≡ true → v ≡ verdict_of shape s.looked Names → verdict_step chosen v s.looked.views ≡ after_looks chosen shape s
over_judged chosen shape s v over is =
    ap (λ (v : Verdict). verdict_step chosen v s.looked.views) is
    ∙ ap (λ (e : Bool). if e then verdict_step chosen (verdict_of shape s.looked Names) s.looked.views else Looking s) (sym over)

-- ---- walks
pub is_walk_from : (shape : Shape) (path : List NameId) → shape.n ≤ 5 → 0 < shape.n → IsWalk (walk_from shape path)
is_walk_from shape path few some = record {
  few = few;
  some = some;
  within = omega arith;
  step = is_step_at shape.n (length path) 0 root_entry some (omega arith);
  free = inl refl;
}

-- a line of free requests leaves a walk one
pub is_noted : (asked : BrickId × Request) (told : Told) (at : ℕ) (w : Walk) → IsWalk w → is_free asked.1 ≡ true → IsWalk (noted asked told at w)
is_noted asked told at w k h = record { few = k.few; some = k.some; within = k.within; step = k.step; free = stays_free w.shape w.register at asked.0.0 asked.1 told k.free h }

is_named : (heard : Answer) (w : Walk) → w.read < length w.path → IsWalk w → IsWalk (named heard w)
is_named (answer.Entry (Some entry)) w l k = record {
  few = k.few;
  some = k.some;
  within = omega (arith, l);
  step = is_step_at w.shape.n (length w.path) (w.read + 1) entry k.some (omega (arith, l));
  free = k.free;
}
is_named (answer.Entry None) w l k = record { few = k.few; some = k.some; within = k.within; step = tt; free = k.free }
is_named heard w l k = record { few = k.few; some = k.some; within = k.within; step = tt; free = k.free }

-- what a walk asks is a free request to a brick of the volume
pub asks_free : (w : Walk) → IsWalk w → is_walking w.step ≡ true → (is_free (next_in w).1 ≡ true) × ((next_in w).0.0 < w.shape.n)
asks_free w k walks = go w.step k.step walks
  where
    go : (step : WalkStep) → IsStep w.shape.n (length w.path) w.read step → is_walking step ≡ true → (is_free (next_at step w).1 ≡ true) × ((next_at step w).0.0 < w.shape.n)
    go (Looking s) i h = (refl, asked_below w.shape.n s i.0.left)
    go (Naming b) i h = (refl, i.0)
    go Arrived i h = absurd (cc h)
    go (Stopped why) i h = absurd (cc h)

-- and so the discipline allows it
pub asks_allowed : (w : Walk) → IsWalk w → is_walking w.step ≡ true → AllowsAsk w.register (next_in w).0 (next_in w).1
asks_allowed w k walks = let asks = asks_free w k walks in allows_free w.shape w.register (next_in w).0 (next_in w).1 k.free asks.0 asks.1

-- whoever is asked is one of five bricks
pub asked_small : (w : Walk) (b : BrickId) (r : Request) → IsWalk w → is_walking w.step ≡ true → next.Ask (next_in w).0 (next_in w).1 ≡ next.Ask b r → b.0 < 5
asked_small w b r k walks e = subst (λ (x : BrickId). x.0 < 5) (asked_brick (next_in w).0 b (next_in w).1 r e) (omega (arith, low, few))
  where
    asked_brick : (a b : BrickId) (q r : Request) → next.Ask a q ≡ next.Ask b r → a ≡ b
    asked_brick a b q r e = cc e

    low : (next_in w).0.0 < w.shape.n
    low = (asks_free w k walks).1

    few : w.shape.n ≤ 5
    few = k.few

pub is_walked_at : (chosen : BrickId) (step : WalkStep) (heard : Answer) (w : Walk) → IsWalk w → IsStep w.shape.n (length w.path) w.read step → IsAmong (choices_at step heard w) chosen
    → IsWalk (walked_at chosen step heard w)
is_walked_at chosen (Looking s) heard w k i among = record {
  few = k.few;
  some = k.some;
  within = k.within;
  step = is_after_looks w.shape (length w.path) w.read chosen (heard_look w.shape.n (told_by heard) s) (heard_within w.shape.n (told_by heard) s i.0) i.1 among;
  free = k.free;
}
is_walked_at chosen (Naming b) heard w k i among = is_named heard w i.1 k
is_walked_at chosen Arrived heard w k i among = k
is_walked_at chosen (Stopped why) heard w k i among = k

-- while a brick is left to look at, the walk goes on looking
pub looks_on : (w : Walk) (s t : Looks) (told : Told) → w.step ≡ Looking s → t ≡ heard_look w.shape.n told s → is_nothing (left_to_look w.shape.n t) ≡ false → IsWalk w
    → IsWalk (record w { step = Looking t })
looks_on w s t told es et more k = record { few = k.few; some = k.some; within = k.within; step = (record { left = more; reached = within }, looking.1); free = k.free }
  where
    looking : IsStep w.shape.n (length w.path) w.read (Looking s)
    looking = subst (λ (step : WalkStep). IsStep w.shape.n (length w.path) w.read step) es k.step

    within : IsWithin w.shape.n t.looked.reached
    within = subst (λ (x : Looks). IsWithin w.shape.n x.looked.reached) (sym et) (heard_within w.shape.n told s looking.0)

-- when all were asked, the verdict comes
pub looks_end : (chosen : BrickId) (w : Walk) (s t : Looks) (told : Told) (step : WalkStep) → w.step ≡ Looking s → t ≡ heard_look w.shape.n told s → step ≡ after_looks chosen w.shape t → IsAmong (choices_after w.shape Names t) chosen → IsWalk w
    → IsWalk (record w { step = step })
looks_end chosen w s t told step es et of among k = record { few = k.few; some = k.some; within = k.within; step = subst (λ (x : WalkStep). IsStep w.shape.n (length w.path) w.read x) (sym of) (is_after_looks w.shape (length w.path) w.read chosen t within looking.1 among); free = k.free }
  where
    looking : IsStep w.shape.n (length w.path) w.read (Looking s)
    looking = subst (λ (step : WalkStep). IsStep w.shape.n (length w.path) w.read step) es k.step

    within : IsWithin w.shape.n t.looked.reached
    within = subst (λ (x : Looks). IsWithin w.shape.n x.looked.reached) (sym et) (heard_within w.shape.n told s looking.0)

-- a name's answer leaves a walk one
pub name_kept : (w : Walk) (b : BrickId) (heard : Answer) → w.step ≡ Naming b → IsWalk w → IsWalk (named heard w)
name_kept w b heard e k = is_named heard w (subst (λ (step : WalkStep). IsStep w.shape.n (length w.path) w.read step) e k.step).1 k

-- what the code asks the rule for is what the answer leaves to choose from
pub asked_is : {F : Type 0} (calls : Calls F) (choose : F) (w : Walk) (heard : Answer) (s t : Looks) (told : Told) (picked : Option BrickId) → w.step ≡ Looking s → told ≡ told_by heard → t ≡ heard_look w.shape.n told s
    → RuleAnswers calls choose (choices_after w.shape Names t) picked → RuleAnswers calls choose (choices_of heard w) picked
asked_is calls choose w heard s t told picked es el et h =
    subst (λ (step : WalkStep). RuleAnswers calls choose (choices_at step heard w) picked) (sym es)
    (subst (λ (x : Looks). RuleAnswers calls choose (choices_after w.shape Names x) picked) (et ∙ ap (λ (x : Told). heard_look w.shape.n x s) el) h)

-- what is noted leaves the same to choose from
pub same_choices : (w : Walk) (heard : Answer) (asked : BrickId × Request) (told : Told) (at : ℕ) → choices_of heard (noted asked told at w) ≡ choices_of heard w
same_choices w heard asked told at = go w.step
  where
    go : (step : WalkStep) → choices_at step heard (noted asked told at w) ≡ choices_at step heard w
    go (Looking s) = refl
    go (Naming b) = refl
    go Arrived = refl
    go (Stopped why) = refl

pub answers_noted : {F : Type 0} (calls : Calls F) (choose : F) (w x : Walk) (heard : Answer) (asked : BrickId × Request) (told : Told) (at : ℕ) (picked : Option BrickId) → x ≡ noted asked told at w
    → RuleAnswers calls choose (choices_of heard x) picked → RuleAnswers calls choose (choices_of heard w) picked
answers_noted calls choose w x heard asked told at picked e h =
    subst (λ (from : List Candidate). RuleAnswers calls choose from picked) (ap (λ (y : Walk). choices_of heard y) e ∙ same_choices w heard asked told at) h

-- whatever is answered, and whichever good copy is chosen, a walk stays one
pub is_walked : (chosen : BrickId) (heard : Answer) (at : ℕ) (w : Walk) → IsWalk w → is_walking w.step ≡ true → IsAmong (choices_of heard w) chosen → IsWalk (walked chosen heard at w)
is_walked chosen heard at w k walks among =
    is_walked_at chosen w.step heard (noted (next_in w) (told_by heard) at w) (is_noted (next_in w) (told_by heard) at w k (asks_free w k walks).0) k.step
    (subst (λ (from : List Candidate). IsAmong from chosen) (sym (same_choices w heard (next_in w) (told_by heard) at)) among)

-- what the code makes is what the answer makes
pub heard_is : (chosen : BrickId) (w x y : Walk) (heard : Answer) (told : Told) (asked : BrickId × Request) (at : ℕ) → told ≡ told_by heard → asked ≡ next_in w → x ≡ noted asked told at w → y ≡ walked_at chosen x.step heard x
    → y ≡ walked chosen heard at w
heard_is chosen w x y heard told asked at et ea ex ey =
    ey ∙ ap (λ (z : Walk). walked_at chosen z.step heard z) (ex ∙ ap (λ (a : BrickId × Request). noted a told at w) ea ∙ ap (λ (t : Told). noted (next_in w) t at w) et)

-- an answer moves the walk alone, and not its register
pub walked_notes : (chosen : BrickId) (step : WalkStep) (a : Answer) (w : Walk) → (walked_at chosen step a w).register ≡ w.register
walked_notes chosen (Looking s) a w = refl
walked_notes chosen (Naming b) (answer.Entry (Some entry)) w = refl
walked_notes chosen (Naming b) (answer.Entry None) w = refl
walked_notes chosen (Naming b) a w = refl
walked_notes chosen Arrived a w = refl
walked_notes chosen (Stopped why) a w = refl
