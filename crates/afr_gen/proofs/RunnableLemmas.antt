-- Every generated plan can be run.
use Rattle.std.proofs.Common.{◌≡◌, ℕ, zero, suc, ◌+◌, ◌≤◌, ◌<◌, ◌%◌, ◌==◌, Bool, true, false, [], ◌∷◌, if◌then◌else◌, length, refl, inl, arith, lit≤, lit<}
use Rattle.std.proofs.lemmas.List.{length-append}
use Rattle.std.proofs.lemmas.List.Elements.{All-cons, All-nil, All-push}
use Rattle.std.specs.List.{All}
use Rattle.afr_base.specs.declared.ids.BrickId.{BrickId}
use Rattle.afr_lines.specs.declared.line.Event.TheVariants.{Stop, Start}
use Rattle.afr_plan.specs.declared.command.Command.TheVariants.{Write, Read, SetAttr}
use Rattle.afr_law_runnable.specs.Runnable.{AreRunnableRounds, IsAboutVolume, IsOneOf, IsRunnableScript, has_its_name}
use Rattle.afr_gen.specs.Generated.{block, command, events, generated, lot, offset, path, rounds, script, scripts, sets, values}
use Rattle.afr_gen.specs.Laws.{GeneratedIsRunnable}

-- ---- scripts
-- a read, a write and an attribute need no name
named : (i v r : ℕ) → has_its_name (command i v r) ≡ true
named i v r = by_tests (sets r) (r % 4 == 1)
  where
    by_tests : (a b : Bool) → has_its_name (if a then SetAttr (path r) (record { 0 = 0 }) (record { 0 = v }) else (if b then Read (path r) (offset r) 1024 else Write (path r) (offset r) (block i))) ≡ true
    by_tests true b = refl
    by_tests false true = refl
    by_tests false false = refl

all_named : (n c v k : ℕ) → All (λ x. has_its_name x ≡ true) (script n c v k)
all_named n c v zero = All-nil (λ x. has_its_name x ≡ true)
all_named n c v (suc k) = All-push (λ x. has_its_name x ≡ true) (script n c v k) (command (c + 1) v (lot n c k)) (all_named n c v k) (named (c + 1) v (lot n c k))

script-length : (n c v k : ℕ) → length (script n c v k) ≡ k
script-length n c v zero = refl
script-length n c v (suc k) = omega (arith, length-append (script n c v k) (command (c + 1) v (lot n c k) ∷ []), script-length n c v k)

script-runs : (n c v : ℕ) → n ≤ 2000 → IsRunnableScript (script n c v n)
script-runs n c v l = record { few = omega (arith, script-length n c v n); commands = all_named n c v n }

scripts-length : (n c : ℕ) → length (scripts n c) ≡ c
scripts-length n zero = refl
scripts-length n (suc c) = omega (arith, length-append (scripts n c) (script n c (length (values n c)) n ∷ []), scripts-length n c)

-- no script has more commands than may be run
scripts-run : (n : ℕ) → n ≤ 2000 → (c : ℕ) → All IsRunnableScript (scripts n c)
scripts-run n l zero = All-nil IsRunnableScript
scripts-run n l (suc c) = All-push IsRunnableScript (scripts n c) (script n c (length (values n c)) n) (scripts-run n l c) (script-runs n c (length (values n c)) l)

-- ---- rounds and events
-- the rounds are over the bricks of the volume
rounds-run : AreRunnableRounds 3 rounds
rounds-run =
    All-cons low (record { 0 = 0 }) (record { 0 = 1 } ∷ record { 0 = 2 } ∷ []) (lit< tt)
    (All-cons low (record { 0 = 1 }) (record { 0 = 2 } ∷ []) (lit< tt) (All-cons low (record { 0 = 2 }) [] (lit< tt) (All-nil low)))
  where
    low : BrickId → Type 0
    low brick = brick.0 < 3

-- the events are about a brick of the volume
events-run : (clients healers : ℕ) → All (λ planned. IsAboutVolume 3 clients healers planned.event) events
events-run clients healers =
    All-cons (λ planned. IsAboutVolume 3 clients healers planned.event) (record { at = 50; event = Stop (record { 0 = 2 }) }) (record { at = 400; event = Start (record { 0 = 2 }) } ∷ []) (lit< tt)
    (All-cons (λ planned. IsAboutVolume 3 clients healers planned.event) (record { at = 400; event = Start (record { 0 = 2 }) }) [] (lit< tt) (All-nil (λ planned. IsAboutVolume 3 clients healers planned.event)))

-- ---- the plan
pub generated-run : GeneratedIsRunnable
unfolding generated
generated-run n l = record {
  shape = inl refl;
  files = lit≤ tt;
  gfids = lit< tt;
  some_turns = lit≤ tt;
  turns = lit≤ tt;
  clients = omega (arith, scripts-length n 4);
  scripts = scripts-run n l 4;
  healers = lit≤ tt;
  rounds = All-cons (AreRunnableRounds 3) rounds [] rounds-run (All-nil (AreRunnableRounds 3));
  events = events-run (length (scripts n 4)) 1;
  go = All-nil (λ order. IsOneOf (length (scripts n 4)) 1 order.actor.0);
  names = lit≤ tt;
}
