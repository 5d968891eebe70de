-- Each line of a walk takes one from the lines that it has left.
use Rattle.std.proofs.Common.{◌≡◌, ℕ, suc, ◌+◌, ◌*◌, ◌-◌, ◌<◌, ◌≤◌, ◌==◌, Bool, true, false, ◌⊎◌, ◌≢◌, inl, inr, refl, sym, subst, ap, arith, List, Some, None, length, true≢false}
use Rattle.std.specs.Prelude.{if◌then◌else◌}
use Rattle.std.proofs.lemmas.Bool.Decides.{eqb_tells}
use native.Mathlib.Nat.{suc-mul}
use Rattle.afr_base.specs.Bricks.{added, below, is_nothing, lowest, member, minus}
use Rattle.afr_base.specs.SetLemmas.{lowest_left, within_below}
use Rattle.afr_base.specs.declared.ids.BrickId.{BrickId}
use Rattle.afr_base.specs.declared.ids.Kind.TheVariants.{Names}
use Rattle.afr_base.specs.declared.ids.NameId.{NameId}
use Rattle.afr_base.specs.declared.ids.Shape.{Shape}
use Rattle.afr_object.specs.Tables.{is_dir, root_entry}
use Rattle.afr_object.specs.declared.entry.Entry.{Entry}
use Rattle.afr_choice.specs.Verdict.{verdict_of}
use Rattle.afr_choice.specs.declared.verdict.Verdict.{Verdict}
use Rattle.afr_choice.specs.declared.verdict.Verdict.TheVariants.{Short, Bare, Split, Sources}
use Rattle.afr_lines.specs.Told.{told_by}
use Rattle.afr_lines.specs.declared.answer.Answer.{Answer}
use Rattle.afr_lines.specs.declared.answer.Answer.TheVariants as answer
use Rattle.afr_counting.proofs.Counts.{count_most}
use Rattle.afr_law_pace.proofs.Counting.{asked_falls}
use Rattle.afr_law_pace.specs.Left.{count}
use Rattle.afr_law_pace.specs.Walks.{WalkComesNearer, WalkStartsWithin, for_others, walk_left, walk_left_at}
use Rattle.afr_client_walk.specs.Looks.{IsLooks, heard_look, left_to_look, no_look}
use Rattle.afr_client_walk.specs.Walk.{IsStep, IsWalk, is_walking, named, next_in, noted, step_at, verdict_step, walk_from, walked_at}
use Rattle.afr_client_walk.specs.declared.looks.Looks.{Looks}
use Rattle.afr_client_walk.specs.declared.stop.Stop.TheVariants as stop
use Rattle.afr_client_walk.specs.declared.walk.Walk.{Walk}
use Rattle.afr_client_walk.specs.declared.walk.WalkStep.{WalkStep}
use Rattle.afr_client_walk.specs.declared.walk.WalkStep.TheVariants.{Looking, Naming, Arrived, Stopped}

-- a look was answered: one brick less is left
pub look_falls : (n : ℕ) (s t : Looks) → is_nothing (left_to_look n s) ≡ false → t.asked ≡ added (lowest (left_to_look n s)) s.asked → count n (left_to_look n t) + 1 ≤ count n (left_to_look n s)
look_falls n s t some is =
    let there = lowest_left (below n) s.asked some in
    subst (λ (q : List ℕ). count n (minus (below n) q) + 1 ≤ count n (left_to_look n s)) (sym is) (asked_falls n (lowest (left_to_look n s)) (below n) s.asked (within_below n _ there.1) there.1 there.0)

-- a name takes the looks and the read of one
one_name : (m names read : ℕ) → read < names → (names - (read + 1)) * m + m ≡ (names - read) * m
one_name m names read less = go (names - read) (names - (read + 1)) (omega (arith, less))
  where
    go : (k l : ℕ) → k ≡ suc l → l * m + m ≡ k * m
    go k l e = subst (λ (z : ℕ). l * m + m ≡ z * m) (sym e) (sym (suc-mul l m))

-- the step after so many names
step_left : (names read : ℕ) (object : Entry) (z : Walk) → length z.path ≡ names → z.read ≡ read → read ≤ names → walk_left_at (step_at names read object) z ≤ (names - read) * (z.shape.n + 1)
step_left names read object z path same within = go (read == names) (is_dir object.what) (eqb_tells read names)
  where
    n : ℕ
    n = z.shape.n

    some : read < names → for_others z + count n (left_to_look n no_look) + 1 ≤ (names - read) * (n + 1)
    some less =
        let most = count_most n (member (left_to_look n no_look)) in
        let here : (length z.path - (z.read + 1)) * (n + 1) ≡ (names - (read + 1)) * (n + 1) = rw (path, same) refl in
        let one = one_name (n + 1) names read less in
        sum (for_others z) ((names - (read + 1)) * (n + 1)) ((names - read) * (n + 1)) (count n (left_to_look n no_look)) n here one most
      where
        sum : (f g h c m : ℕ) → f ≡ g → g + (m + 1) ≡ h → c ≤ m → f + c + 1 ≤ h
        sum f g h c m a b d = omega (arith, a, b, d)

    go : (e d : Bool) → (e ≡ true) × (read ≡ names) ⊎ (e ≡ false) × (read ≢ names) → walk_left_at (if e then Arrived else (if d then Looking no_look else Stopped stop.NotDir)) z ≤ (names - read) * (n + 1)
    go true d h = omega arith
    go false true (inl h) = absurd (true≢false (sym h.0))
    go false true (inr h) = let other = h.1 in some (omega (arith, within, other))
    go false false h = omega arith

module _ (w : Walk) (k : IsWalk w) (chosen : BrickId) (heard : Answer) (y : Walk) (shape : y.shape ≡ w.shape) (path : y.path ≡ w.path) (read : y.read ≡ w.read) where
  abbrev Nearer : WalkStep → Type 0
  Nearer step = walk_left (walked_at chosen step heard y) + 1 ≤ walk_left_at step w

  others : for_others y ≡ for_others w
  others = rw (shape, path, read) refl

  -- a look
  looking : (s : Looks) → IsLooks w.shape.n s → Nearer (Looking s)
  looking s looks = go (is_nothing (left_to_look y.shape.n t)) (verdict_of y.shape t.looked Names)
    where
      t : Looks
      t = heard_look y.shape.n (told_by heard) s

      z : Walk
      z = walked_at chosen (Looking s) heard y

      falls : count w.shape.n (left_to_look w.shape.n t) + 1 ≤ count w.shape.n (left_to_look w.shape.n s)
      falls = look_falls w.shape.n s t looks.left (ap (λ (q : Shape). added (lowest (left_to_look q.n s)) s.asked) shape)

      still : for_others y + count y.shape.n (left_to_look y.shape.n t) + 1 + 1 ≤ walk_left_at (Looking s) w
      still = subst (λ (q : Shape). for_others y + count q.n (left_to_look q.n t) + 1 + 1 ≤ walk_left_at (Looking s) w) (sym shape)
          (sum (for_others y) (for_others w) (count w.shape.n (left_to_look w.shape.n t)) (count w.shape.n (left_to_look w.shape.n s)) others falls)
        where
          sum : (f g c d : ℕ) → f ≡ g → c + 1 ≤ d → f + c + 1 + 1 ≤ g + d + 1
          sum f g c d a b = omega (arith, a, b)

      over : for_others y + 1 + 1 ≤ walk_left_at (Looking s) w
      over = sum (for_others y) (for_others w) (count w.shape.n (left_to_look w.shape.n t)) (count w.shape.n (left_to_look w.shape.n s)) others falls
        where
          sum : (f g c d : ℕ) → f ≡ g → c + 1 ≤ d → f + 1 + 1 ≤ g + d + 1
          sum f g c d a b = omega (arith, a, b)

      stops : 1 ≤ walk_left_at (Looking s) w
      stops = sum (for_others w) (count w.shape.n (left_to_look w.shape.n s))
        where
          sum : (g d : ℕ) → 1 ≤ g + d + 1
          sum g d = omega arith

      go : (e : Bool) (v : Verdict) → walk_left_at (if e then verdict_step chosen v t.looked.views else Looking t) z + 1 ≤ walk_left_at (Looking s) w
      go false v = still
      go true Short = stops
      go true Bare = stops
      go true Split = stops
      go true (Sources sources) = over

  -- a name
  naming : (b : BrickId) → w.read < length w.path → Nearer (Naming b)
  naming b less = go heard
    where
      stops : 1 ≤ walk_left_at (Naming b) w
      stops = sum (for_others w)
        where
          sum : (g : ℕ) → 1 ≤ g + 1
          sum g = omega arith

      on : (entry : Entry) → walk_left (named (answer.Entry (Some entry)) y) + 1 ≤ walk_left_at (Naming b) w
      on entry =
          let h = step_left (length y.path) (y.read + 1) entry (named (answer.Entry (Some entry)) y) refl refl (subst (λ (q : ℕ). q + 1 ≤ length y.path) (sym read) (subst (λ (q : List NameId). w.read + 1 ≤ length q) (sym path) (omega (arith, less)))) in
          sum (walk_left (named (answer.Entry (Some entry)) y)) (for_others y) (for_others w) h others
        where
          sum : (l f g : ℕ) → l ≤ f → f ≡ g → l + 1 ≤ g + 1
          sum l f g a b = omega (arith, a, b)

      go : (h : Answer) → walk_left (named h y) + 1 ≤ walk_left_at (Naming b) w
      go (answer.Entry (Some entry)) = on entry
      go (answer.Entry None) = stops
      go h = stops

  by_step : (step : WalkStep) → IsStep w.shape.n (length w.path) w.read step → is_walking step ≡ true → Nearer step
  by_step (Looking s) here e = looking s here.0
  by_step (Naming b) here e = naming b here.1
  by_step Arrived here e = absurd (true≢false (sym e))
  by_step (Stopped why) here e = absurd (true≢false (sym e))

-- a walk keeps its bricks
pub shape_kept : (chosen : BrickId) (a : Answer) (step : WalkStep) (y : Walk) → (walked_at chosen step a y).shape ≡ y.shape
shape_kept chosen a (Looking s) y = refl
shape_kept chosen a (Naming b) y = go a
  where
    go : (h : Answer) → (named h y).shape ≡ y.shape
    go (answer.Entry (Some entry)) = refl
    go (answer.Entry None) = refl
    go h = refl
shape_kept chosen a Arrived y = refl
shape_kept chosen a (Stopped why) y = refl

pub walk_nearer : WalkComesNearer
walk_nearer w k e chosen heard at = by_step w k chosen heard (noted (next_in w) (told_by heard) at w) refl refl refl w.step k.step e

pub walk_starts : WalkStartsWithin
walk_starts shape path = subst (λ (q : ℕ). walk_left (walk_from shape path) ≤ q * (shape.n + 1)) (none (length path)) (step_left (length path) 0 root_entry (walk_from shape path) refl refl (omega arith))
  where
    none : (m : ℕ) → m - 0 ≡ m
    none m = omega arith
