-- A healer's turn keeps the sources of all healers as the rule picked them.
use Rattle.std.proofs.Common.{◌≡◌, ◌∙◌, ℕ, ◌+◌, ◌-◌, ◌≤◌, ◌==◌, true, false, List, ◌∷◌, Some, refl, sym, ap, subst, arith, length, option_map, slice_get, slice_set}
use Rattle.std.proofs.lemmas.Option.{slice_get-map}
use Rattle.afr_base.specs.declared.ids.ActorId.{ActorId}
use Rattle.afr_heal_round.specs.Rounding.{IsFed}
use Rattle.afr_lines.specs.Work.{is_of}
use Rattle.afr_lines.specs.declared.line.Line.{Line}
use Rattle.afr_model.specs.Chosen.{Picks}
use Rattle.afr_plan.specs.declared.plan.Plan.{Plan}
use Rattle.afr_healer.specs.Acting.{Stepped}
use Rattle.afr_healer.specs.Keeping.{IsHealer}
use Rattle.afr_healer.specs.Laws.{Asks, Begins, Ends, Heals, IsBeforeRound, IsMadeReady, IsWritten}
use Rattle.afr_healer.specs.declared.healer.Healer.{Healer}
use Rattle.afr_rule.specs.Choosing.{Calls}
use Rattle.afr_server.specs.Serving.{Serving}
use Rattle.afr_law_picks.proofs.Sources.Turns.{healer_keeps, set_source}
use Rattle.afr_law_picks.specs.Sources.Chosen.{AreChosen, RunsFrom}
use Rattle.afr_law_picks.specs.Sources.Laws.{LineKeepsSource, SourceKept}
use Rattle.afr_law_picks.specs.Sources.Sources.{picked_source, picks_of, sources_of}

-- a line that an actor wrote is its own alone
pub written_of : (a : ActorId) (line : Line) → IsWritten a line → (c : ℕ) → is_of c line ≡ (a.0 == c)
written_of a line (Asks b request told took) c = refl
written_of a line (Begins g kind) c = refl
written_of a line (Heals g kind said) c = refl
written_of a line (Ends said) c = refl

-- the healer's running heal has the source beside it
own_source : (picks : Picks) (p : Plan) (a : ActorId) (log : List Line) (healers : List Healer) (x : Healer) → 17 ≤ a.0 → slice_get healers (a.0 - 17) ≡ Some x → AreChosen picks p log (sources_of healers) → RunsFrom picks p a.0 log (picked_source x)
own_source picks p a log healers x healer is k =
    let at : 17 + (a.0 - 17) ≡ a.0 = omega (arith, healer) in
    subst (λ (c : ℕ). RunsFrom picks p c log (picked_source x)) at (k.present (a.0 - 17) (picked_source x) (slice_get-map picked_source healers (a.0 - 17) ∙ ap (option_map picked_source) is))

-- one line of one healer, whose round has begun, and asks this rule
pub healer_turn : {F : Type 0} (calls : Calls F) (choose : F) → LineKeepsSource calls choose → (p : Plan) (a : ActorId) (log : List Line) (servers after : List Serving) (old new : List Healer) (x y : Healer) (line : Line)
    → IsBeforeRound false p a log servers → slice_get old (a.0 - 17) ≡ Some x → IsHealer false p log a.0 servers x → IsMadeReady x → Stepped (IsFed calls choose) a (length log) x y servers after line → IsWritten a line → new ≡ slice_set old (a.0 - 17) y
    → AreChosen (picks_of calls choose) p log (sources_of old) → AreChosen (picks_of calls choose) p (line ∷ log) (sources_of new)
healer_turn calls choose law p a log servers after old new x y line before is acting ready steps written set_is k =
    let kept : SourceKept calls choose p a log line y = law p a log servers after x y line before acting ready steps (own_source (picks_of calls choose) p a log old x before.healer is k) in
    subst (AreChosen (picks_of calls choose) p (line ∷ log)) (sym (set_source old (a.0 - 17) y) ∙ ap sources_of (sym set_is))
    (healer_keeps (picks_of calls choose) p log (sources_of old) a (picked_source y) line before.healer (written_of a line written) kept.picked kept.runs k)
