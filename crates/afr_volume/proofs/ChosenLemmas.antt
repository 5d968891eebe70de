-- Reads and heals keep to the rules: before the first line, by each turn, and over each event.
use Rattle.std.proofs.Common.{◌≡◌, ◌∙◌, ℕ, zero, suc, ◌+◌, ◌<◌, ◌≤◌, ◌==◌, Bool, true, false, List, [], ◌∷◌, Option, Some, None, Result, Ok, Err, IfOk, OnErr, nat_le, nat_lt, refl, sym, arith, subst, slice_get, replicate, length, if◌then◌else◌}
use Rattle.std.proofs.lemmas.Bool.Decides.{nat_tests}
use Rattle.afr_law.proofs.Model.Tasks.{no_script}
use Rattle.afr_base.specs.declared.ids.ActorId.{ActorId}
use Rattle.afr_base.specs.declared.ids.BrickId.{BrickId}
use Rattle.afr_lines.specs.Work.{ended, is_of, work}
use Rattle.afr_lines.specs.declared.answer.Told.{Told}
use Rattle.afr_lines.specs.declared.line.Line.{Line}
use Rattle.afr_lines.specs.declared.line.Line.TheVariants as line_of
use Rattle.afr_lines.specs.declared.reply.Good.{Good}
use Rattle.afr_lines.specs.declared.reply.Good.TheVariants as good
use Rattle.afr_lines.specs.declared.reply.Reply.{Reply}
use Rattle.afr_lines.specs.declared.reply.Reply.TheVariants as reply
use Rattle.afr_lines.specs.declared.request.Request.{Request}
use Rattle.afr_lines.specs.declared.request.Request.TheVariants as request
use Rattle.afr_model.specs.Chosen.{Picks, ReadsPicked}
use Rattle.afr_model.specs.Following.{Follows, IsFollowing, KeepsToTask, ToCommand, ToCrawl, ToItem, ToRound}
use Rattle.afr_model.specs.HealReplies.{refuses_index}
use Rattle.afr_model.specs.Replied.{IsReplied, Replied}
use Rattle.afr_model.specs.Showing.{has}
use Rattle.afr_plan.specs.declared.plan.Plan.{Plan}
use Rattle.afr_law_picks.specs.Readings.{PickAnswers}
use Rattle.afr_law_picks.proofs.Sources.Turns.{event_keeps}
use Rattle.afr_law_picks.proofs.Sources.Turns as sources
use Rattle.afr_volume.specs.State.{AreRead, HealsChosen, IsChosen, ReadsChosen, State, no_volume, opened}
use Rattle.afr_volume.specs.Turning.{AddsLine, Comes, Turns}
use Rattle.afr_volume.specs.declared.turned.Turned.{Turned}
use Rattle.afr_volume.specs.declared.turned.Turned.TheVariants.{Ended, Full, Moved, Waits}
use Rattle.afr_volume.proofs.ReadingLemmas.{other_asked}
use Rattle.afr_volume.proofs.SourceLemmas.{client_turn, own_of}

-- ---- a healer's line is no read of a client
high : (a : ℕ) → 17 ≤ a → nat_lt 16 a ≡ false → ⊥
high a low e = let h : nat_lt 16 a ≡ true = grind (arith, nat_tests, low) in cc (sym h ∙ e)

asks_no : (reads : Picks) (p : Plan) (x : ActorId) (b : BrickId) (asked : Request) (told : Told) (took : Bool) (log : List Line) → 17 ≤ x.0 → ReadsPicked reads p (line_of.Ask x b asked told took) log
asks_no reads p x b (request.ReadName g name) told took log low = λ client. absurd (high x.0 low client)
asks_no reads p x b (request.List g) told took log low = λ client. absurd (high x.0 low client)
asks_no reads p x b (request.ReadAttr g key) told took log low = λ client. absurd (high x.0 low client)
asks_no reads p x b (request.ReadBytes g at len) told took log low = λ client. absurd (high x.0 low client)
asks_no reads p x b asked told took log low = tt

-- a round that ends is done or has failed
ends_good : (reads : Picks) (p : Plan) (x : ActorId) (of : Good) (log : List Line) → reply.Ok of ≡ reply.Ok good.Done → ReadsPicked reads p (line_of.End x (reply.Ok of)) log
ends_good reads p x (good.Stat entry len) log e = absurd (cc e)
ends_good reads p x of log e = tt

ends_so : (reads : Picks) (p : Plan) (x : ActorId) (said : Reply) (log : List Line) (refused : Bool) → said ≡ (if refused then reply.Failed else reply.Ok good.Done) → ReadsPicked reads p (line_of.End x said) log
ends_so reads p x (reply.Ok of) log true e = absurd (cc e)
ends_so reads p x (reply.Ok of) log false e = ends_good reads p x of log e
ends_so reads p x said log refused e = tt

ends_no : (crawl : Bool) (reads : Picks) (p : Plan) (x : ActorId) (said : Reply) (log : List Line) → length p.clients ≤ 16 → 17 ≤ x.0 → KeepsToTask crawl p x.0 (line_of.End x said) log → IsReplied p (line_of.End x said) log → ReadsPicked reads p (line_of.End x said) log
ends_no crawl reads p x said log few low (ToCommand c is k) replied = absurd (no_script p x.0 (ended x.0 log) c few low is)
ends_no crawl reads p x said log few low (ToRound plain healer b is k) replied = ends_so reads p x said log (has refuses_index (work x.0 log)) (replied.round low)
ends_no crawl reads p x said log few low (ToCrawl crawls first b is k) replied = ends_so reads p x said log (has refuses_index (work x.0 log)) (replied.round low)
ends_no crawl reads p x said log few low (ToItem crawls healer item given k) replied = ends_so reads p x said log (has refuses_index (work x.0 log)) (replied.round low)

healer_reads : (crawl : Bool) (reads : Picks) (p : Plan) (a : ℕ) (line : Line) (log : List Line) → length p.clients ≤ 16 → 17 ≤ a → is_of a line ≡ true → IsFollowing crawl p line log → IsReplied p line log → ReadsPicked reads p line log
healer_reads crawl reads p a (line_of.Ask x b asked told took) log few low own follows replied = let same : x.0 ≡ a = grind (arith, nat_tests, own) in asks_no reads p x b asked told took log (omega (arith, same, low))
healer_reads crawl reads p a (line_of.Begin x change) log few low own follows replied = tt
healer_reads crawl reads p a (line_of.HealBegin x g kind) log few low own follows replied = tt
healer_reads crawl reads p a (line_of.End x said) log few low own follows replied = let same : x.0 ≡ a = grind (arith, nat_tests, own) in ends_no crawl reads p x said log few (omega (arith, same, low)) follows.1.0.keeps replied
healer_reads crawl reads p a (line_of.HealEnd x g kind said) log few low own follows replied = tt
healer_reads crawl reads p a (line_of.Event event) log few low own follows replied = absurd (cc own)

-- a line of no client leaves what was picked for each
others_read : (reads : Picks) (p : Plan) (log : List Line) (line : Line) (old new : List (Option ℕ)) → ReadsPicked reads p line log → ((i : ℕ) → i < length p.clients → is_of (1 + i) line ≡ false) → ((i : ℕ) → i < length p.clients → slice_get new i ≡ slice_get old i)
    → AreRead reads p log old → AreRead reads p (line ∷ log) new
others_read reads p log line old new picked other same k = record {
  past = (picked, k.past);
  present = λ i brick small is. subst (λ (from : List (ℕ × ℕ)). PickAnswers reads from brick) (sym (other_asked p (1 + i) line log (other i small))) (k.present i brick small (sym (same i small) ∙ is));
}

healer_adds : (crawl : Bool) (reads : Picks) (a : ActorId) (old new : State) (waits : Option ActorId) → 17 ≤ a.0 → AddsLine a old waits new → Follows crawl new.plan new.log → Replied new.plan new.log → length new.plan.clients ≤ 16 → ReadsChosen reads old → ReadsChosen reads new
healer_adds crawl reads a old new waits low h follows replied few k =
    let plan : new.plan ≡ old.plan = h.plan in
    let added : new.log ≡ h.line ∷ old.log = h.added in
    let f : Follows crawl old.plan (h.line ∷ old.log) = rw (plan, added) at follows in
    let r : Replied old.plan (h.line ∷ old.log) = rw (plan, added) at replied in
    let small : length old.plan.clients ≤ 16 = rw plan at few in
    rw (plan, added)
    (others_read reads old.plan old.log h.line old.picked new.picked (healer_reads crawl reads old.plan a.0 h.line old.log small low h.own f.0 r.0) (λ i client. own_of a.0 h.line h.own (1 + i) ∙ differ i (omega (arith, client, small)))
    (λ i client. h.others_picked i (λ same. absurd (omega (arith, same, low, client, small)))) k)
  where
    differ : (i : ℕ) → i < 16 → (a.0 == 1 + i) ≡ false
    differ i client = grind (arith, nat_tests, client, low)

healer_turn : (crawl : Bool) (reads : Picks) (a : ActorId) (old new : State) (turned : Turned) → 17 ≤ a.0 → Turns a old turned new → Follows crawl new.plan new.log → Replied new.plan new.log → length new.plan.clients ≤ 16 → ReadsChosen reads old → ReadsChosen reads new
healer_turn crawl reads a old new Moved low h follows replied few k = healer_adds crawl reads a old new None low h follows replied few k
healer_turn crawl reads a old new (Waits owner) low h follows replied few k = healer_adds crawl reads a old new (Some owner) low h follows replied few k
healer_turn crawl reads a old new Ended low h follows replied few k = subst (ReadsChosen reads) (sym h.1) k
healer_turn crawl reads a old new Full low h follows replied few k = subst (ReadsChosen reads) (sym h.2) k

-- ---- a turn, whoever takes it
module _ {E : Type 0} (crawl : Bool) (reads heals : Picks) (a : ActorId) (old new : State) (follows : Follows crawl new.plan new.log) (replied : Replied new.plan new.log) (few : length new.plan.clients ≤ 16) (of_heals : 17 ≤ a.0 → HealsChosen heals old → HealsChosen heals new)
    (of_reads : a.0 ≤ 16 → ReadsChosen reads old → ReadsChosen reads new) where
  by : (small : Bool) → nat_le a.0 16 ≡ small → (result : Result Turned E) → IfOk result (λ turned. Turns a old turned new) → OnErr result (new ≡ old) → IsChosen reads heals old → IsChosen reads heals new
  by small e (Err none) ok err k = subst (IsChosen reads heals) (sym err) k
  by true e (Ok turned) ok err k = let low : a.0 ≤ 16 = grind (arith, nat_tests, e) in record { of_reads = of_reads low k.of_reads; of_heals = client_turn crawl heals a old new turned low ok follows k.of_heals }
  by false e (Ok turned) ok err k = let low : 17 ≤ a.0 = grind (arith, nat_tests, e) in record { of_reads = healer_turn crawl reads a old new turned low ok follows replied few k.of_reads; of_heals = of_heals low k.of_heals }

  pub turn_chosen : (result : Result Turned E) → IfOk result (λ turned. Turns a old turned new) → OnErr result (new ≡ old) → IsChosen reads heals old → IsChosen reads heals new
  turn_chosen result ok err k = by (nat_le a.0 16) refl result ok err k

-- ---- an event
pub event_chosen : (reads heals : Picks) (old new : State) → Comes old new → IsChosen reads heals old → IsChosen reads heals new
event_chosen reads heals old new h k = rw h.added (record {
  of_reads = others_read reads old.plan old.log (line_of.Event h.event) old.picked old.picked tt (λ i client. refl) (λ i client. refl) k.of_reads;
  of_heals = λ plain. event_keeps heals old.plan old.log old.sources h.event (k.of_heals plain);
})

-- ---- before the first line
none_at : (n i : ℕ) (brick : Option ℕ) → slice_get (replicate n None) i ≡ Some brick → brick ≡ None
none_at zero i brick e = absurd (cc e)
none_at (suc n) zero brick e = sym (cc e)
none_at (suc n) (suc i) brick e = none_at n i brick e

answers_none : (reads : Picks) (brick : Option ℕ) → brick ≡ None → PickAnswers reads [] brick
answers_none reads brick e = rw e refl

pub opened_chosen : (reads heals : Picks) (p : Plan) → IsChosen reads heals (opened p)
opened_chosen reads heals p = record {
  of_reads = record { past = tt; present = λ i brick small is. answers_none reads brick (none_at (length p.clients) i brick is) };
  of_heals = λ plain. sources.none_chosen heals p (replicate (length p.healers) None);
}

pub no_volume_chosen : (reads heals : Picks) → IsChosen reads heals no_volume
no_volume_chosen reads heals = record {
  of_reads = record { past = tt; present = λ i brick small is. absurd (cc is) };
  of_heals = λ plain. sources.none_chosen heals no_volume.plan [];
}
