-- The sources of the healers' running heals: what each turn leaves of them.
use Rattle.std.proofs.Common.{◌≡◌, ◌∙◌, ℕ, zero, suc, ◌+◌, ◌-◌, ◌≤◌, ◌==◌, Bool, true, false, List, [], ◌∷◌, Option, Some, None, Result, Ok, Err, OnErr, refl, sym, ap, arith, subst, slice_get, slice_set, replicate, reverse, length, ◌++◌, not, ◌<◌}
use Rattle.std.proofs.lemmas.Bool.Decides.{nat_tests}
use Rattle.afr_base.specs.declared.ids.ActorId.{ActorId}
use Rattle.afr_base.specs.declared.ids.BrickId.{BrickId}
use Rattle.afr_base.specs.declared.ids.Gfid.{Gfid}
use Rattle.afr_base.specs.declared.ids.Kind.{Kind}
use Rattle.afr_heal_round.specs.Rounding.{Rounding}
use Rattle.afr_heal_round.specs.declared.stage.RoundStage.{RoundStage}
use Rattle.afr_heal_round.specs.declared.stage.RoundStage.TheVariants.{Asking, Healing, Over}
use Rattle.afr_lines.specs.Work.{is_of, work}
use Rattle.afr_lines.specs.declared.line.Event.{Event}
use Rattle.afr_lines.specs.declared.line.Line.{Line}
use Rattle.afr_lines.specs.declared.line.Line.TheVariants as line_of
use Rattle.afr_lines.specs.declared.reply.HealReply.{HealReply}
use Rattle.afr_model.specs.Chosen.{Picks}
use Rattle.afr_model.specs.Following.{Follows, IsFollowing, KeepsToTask, ToCommand, ToCrawl, ToItem, ToRound}
use Rattle.afr_plan.specs.declared.plan.Plan.{Plan}
use Rattle.afr_healer.specs.Acting.{Hearing, IsNewHealer}
use Rattle.afr_healer.specs.Keeping.{CarriesIts, Crawls, Duty, HasBegun, IsHealer, IsOnDuty, Rounds, Task}
use Rattle.afr_healer.specs.declared.healer.Healer.{Healer}
use Rattle.afr_server.specs.Serving.{Serving}
use Rattle.afr_servers.specs.declared.epochs.Epochs.{Epochs}
use Rattle.afr_law_picks.proofs.Sources.Turns.{client_keeps, each_same, ends_heal, ready_same, set_same, set_source}
use Rattle.afr_law_picks.specs.Sources.Chosen.{AreChosen}
use Rattle.afr_law_picks.specs.Sources.Sources.{picked_source, source_at, source_in, sources_of}
use Rattle.afr_volume.specs.Acting.{picked_of}
use Rattle.afr_volume.specs.Starting.{AreNewActors, AreNewHealers}
use Rattle.afr_volume.specs.State.{HealsChosen, State, opened, no_tasks, opened_for}
use Rattle.afr_volume.specs.Turning.{AddsLine, Comes, KillsHealersIn, KillsIn, ReadiedHealerAt, StepsHealerAt, Turns, due_at}
use Rattle.afr_volume.specs.declared.actor.Actor.{Actor}
use Rattle.afr_volume.specs.declared.turned.Turned.{Turned}
use Rattle.afr_volume.specs.declared.turned.Turned.TheVariants.{Ended, Full, Moved, Waits}
use Rattle.afr_volume.proofs.LineKeeps.{ends_none}
use Rattle.afr_volume.proofs.LogLemmas.{reverse_push}
use Rattle.afr_volume.proofs.PickedLemmas.{killed_picked, new_picked, other_set}
use Rattle.afr_base.specs.declared.ids.What.{What}
use Rattle.afr_model.specs.Crawl.{CanCrawl}
use Rattle.afr_volume.specs.Tasks.{tasks_of}
use Rattle.afr_volume.proofs.TaskLemmas.{killed_tasks, readied_tasks}

-- ---- a healer that is made ready has the source that it had
pub readied_sources : {crawl : Bool} (p : Plan) (a : ℕ) (healers readied : List Healer) → ReadiedHealerAt crawl p a healers readied → sources_of readied ≡ sources_of healers
readied_sources {crawl = crawl} p a healers readied r = ap sources_of r.set_is ∙ set_same healers (a - 17) r.before r.after r.was (ready_same p.shape (not crawl) r.brick r.before r.after r.readies)

-- so a volume whose healer was made ready and wrote no line is as before
pub unwritten : (crawl : Bool) (p : Plan) (a : ℕ) (items kept : List Line) (picked : List (Option ℕ)) (healers readied now : List Healer) → (crawl ≡ true → CanCrawl p) → 17 ≤ a → a < 20 → ReadiedHealerAt crawl p a healers readied → now ≡ readied → kept ≡ items
    → ◌≡◌ {A = State} (record { plan = p; log = reverse kept; sources = sources_of now; picked = picked; crawl = crawl; tasks = tasks_of crawl now })
    (record { plan = p; log = reverse items; sources = sources_of healers; picked = picked; crawl = crawl; tasks = tasks_of crawl healers })
unwritten crawl p a items kept picked healers readied now can low high r same none = rw (none, same, readied_sources p a healers readied r, readied_tasks crawl p a healers readied can low high r) refl

pub whatever : {A E P : Type 0} (result : Result A E) → P → OnErr result P
whatever (Ok x) k = tt
whatever (Err e) k = k

-- ---- before the first line
asks_first : (duty : Duty) (crawl : Bool) (p : Plan) (a : ℕ) (b : BrickId) → IsOnDuty duty crawl p a [] b → (stage : RoundStage) → HasBegun duty stage [] → source_in stage ≡ None
asks_first duty crawl p a b on (Asking heals) k = refl
asks_first duty crawl p a b on (Over refused) k = refl
asks_first Rounds crawl p a b on (Healing h) k = absurd k
asks_first Crawls crawl p a b on (Healing h) k = absurd k
asks_first (Task item) crawl p a b on (Healing h) k = absurd on.2

rests : (crawl : Bool) (p : Plan) (a : ℕ) (met : Bool) (epochs : Epochs) (servers : List Serving) (r : Option Rounding) → CarriesIts crawl p a [] met epochs servers r → source_at r ≡ None
rests crawl p a met epochs servers None k = refl
rests crawl p a met epochs servers (Some m) k = asks_first k.duty crawl p a m.round.brick k.present m.stage k.begun

all_none : (l : List Healer) → ((i : ℕ) (x : Healer) → slice_get l i ≡ Some x → picked_source x ≡ None) → sources_of l ≡ replicate (length l) None
all_none [] each = refl
all_none (x ∷ l) each = rw (each 0 x refl) (ap (λ (rest : List (Option ℕ)). None ∷ rest) (all_none l (λ i y h. each (suc i) y h)))

pub all_rest_first : {crawl : Bool} (p : Plan) (log : List Line) (servers : List Serving) (healers : List Healer) → length healers ≡ length p.healers → ((i : ℕ) (x : Healer) → slice_get healers i ≡ Some x → IsHealer crawl p log (17 + i) servers x) → log ≡ []
    → sources_of healers ≡ replicate (length p.healers) None
all_rest_first {crawl = crawl} p log servers healers same each none = rw (← same) (all_none healers (λ i x h. let k : IsHealer crawl p [] (17 + i) servers x = rw none at (each i x h) in rests crawl p (17 + i) x.visit.met x.visit.epochs servers x.round k.carries))

pub rested_state : (crawl : Bool) (p : Plan) (log : List Line) (sources picked : List (Option ℕ)) (tasks : List (Option (Gfid × What))) → log ≡ [] → sources ≡ replicate (length p.healers) None → picked ≡ replicate (length p.clients) None → tasks ≡ no_tasks crawl
    → record { plan = p; log = log; sources = sources; picked = picked; crawl = crawl; tasks = tasks } ≡ opened_for crawl p
rested_state crawl p log sources picked tasks none resting unpicked idle = rw (none, resting, unpicked, idle) refl

fresh_source : (x : Healer) → IsNewHealer x → picked_source x ≡ None
fresh_source x k = rw k.idle refl

pub new_state : (p : Plan) (log : List Line) (healers : List Healer) (actors : List Actor) → log ≡ [] → AreNewHealers (length p.healers) healers → AreNewActors (length p.clients) actors
    → record { plan = p; log = log; sources = sources_of healers; picked = picked_of actors; crawl = false; tasks = [] } ≡ opened p
new_state p log healers actors none k new =
    rested_state false p log (sources_of healers) (picked_of actors) [] none (all_none healers (λ i x h. fresh_source x (k.each i x h)) ∙ ap (λ (n : ℕ). replicate n None) k.many) (new_picked (length p.clients) actors new) refl

-- ---- a client's turn
pub own_of : (a : ℕ) (line : Line) → is_of a line ≡ true → (c : ℕ) → is_of c line ≡ (a == c)
own_of a (line_of.Ask x b r told took) own c = let same : x.0 ≡ a = grind (arith, nat_tests, own) in rw same refl
own_of a (line_of.Begin x change) own c = let same : x.0 ≡ a = grind (arith, nat_tests, own) in rw same refl
own_of a (line_of.HealBegin x g kind) own c = let same : x.0 ≡ a = grind (arith, nat_tests, own) in rw same refl
own_of a (line_of.End x r) own c = let same : x.0 ≡ a = grind (arith, nat_tests, own) in rw same refl
own_of a (line_of.HealEnd x g kind r) own c = let same : x.0 ≡ a = grind (arith, nat_tests, own) in rw same refl
own_of a (line_of.Event event) own c = absurd (cc own)

unended : (crawl : Bool) (p : Plan) (x : ActorId) (g : Gfid) (kind : Kind) (said : HealReply) (log : List Line) → x.0 ≤ 16 → KeepsToTask crawl p x.0 (line_of.HealEnd x g kind said) log → ⊥
unended crawl p x g kind said log small (ToCommand c is k) = ends_none p c x g kind said (length log) (work x.0 log) k
unended crawl p x g kind said log small (ToRound plain low b is k) = absurd (omega (arith, small, low))
unended crawl p x g kind said log small (ToCrawl crawls first b is k) = absurd (omega (arith, small, first))
unended crawl p x g kind said log small (ToItem crawls low item given k) = absurd (omega (arith, small, low))

client_unended : (crawl : Bool) (p : Plan) (a : ℕ) (line : Line) (log : List Line) → a ≤ 16 → is_of a line ≡ true → IsFollowing crawl p line log → ends_heal line ≡ false
client_unended crawl p a (line_of.Ask x b r told took) log small own k = refl
client_unended crawl p a (line_of.Begin x change) log small own k = refl
client_unended crawl p a (line_of.HealBegin x g kind) log small own k = refl
client_unended crawl p a (line_of.End x r) log small own k = refl
client_unended crawl p a (line_of.HealEnd x g kind r) log small own k = let same : x.0 ≡ a = grind (arith, nat_tests, own) in absurd (unended crawl p x g kind r log (omega (arith, same, small)) k.1.0.keeps)
client_unended crawl p a (line_of.Event event) log small own k = refl

-- sources that are the same at each place
same_sources : (picks : Picks) (p : Plan) (log : List Line) (old new : List (Option ℕ)) → ((i : ℕ) → slice_get new i ≡ slice_get old i) → AreChosen picks p log old → AreChosen picks p log new
same_sources picks p log old new same k = record { past = k.past; present = λ i source is. k.present i source (sym (same i) ∙ is) }

client_adds : (crawl : Bool) (picks : Picks) (a : ActorId) (old new : State) (waits : Option ActorId) → a.0 ≤ 16 → AddsLine a old waits new → Follows crawl new.plan new.log → HealsChosen picks old → HealsChosen picks new
client_adds crawl picks a old new waits small h follows k =
    let plan : new.plan ≡ old.plan = h.plan in
    let added : new.log ≡ h.line ∷ old.log = h.added in
    let f : Follows crawl old.plan (h.line ∷ old.log) = rw (plan, added) at follows in
    λ plain.
    rw (plan, added)
    (same_sources picks old.plan (h.line ∷ old.log) old.sources new.sources (λ i. h.others i (λ same. absurd (omega (arith, small, same))))
    (client_keeps picks old.plan old.log old.sources a h.line small (own_of a.0 h.line h.own) (client_unended crawl old.plan a.0 h.line old.log small h.own f.0) (k (sym h.crawl ∙ plain))))

pub client_turn : (crawl : Bool) (picks : Picks) (a : ActorId) (old new : State) (turned : Turned) → a.0 ≤ 16 → Turns a old turned new → Follows crawl new.plan new.log → HealsChosen picks old → HealsChosen picks new
client_turn crawl picks a old new Moved small h follows k = client_adds crawl picks a old new None small h follows k
client_turn crawl picks a old new (Waits owner) small h follows k = client_adds crawl picks a old new (Some owner) small h follows k
client_turn crawl picks a old new Ended small h follows k = subst (HealsChosen picks) (sym h.1) k
client_turn crawl picks a old new Full small h follows k = subst (HealsChosen picks) (sym h.2) k

-- ---- a healer's line leaves the sources of the other healers
pub healer_others : {crawl : Bool} (Hears : Hearing) (p : Plan) (a : ActorId) (at : ℕ) (healers readied new : List Healer) (bricks after : List Serving) (line : Line) → 17 ≤ a.0 → ReadiedHealerAt crawl p a.0 healers readied → StepsHealerAt Hears a at readied new bricks after line
    → (i : ℕ) → (17 + i ≡ a.0 → ⊥) → slice_get (sources_of new) i ≡ slice_get (sources_of healers) i
healer_others Hears p a at healers readied new bricks after line low r s i other =
    let set_is : sources_of new ≡ slice_set (sources_of readied) (a.0 - 17) (picked_source s.after) = ap sources_of s.set_is ∙ set_source readied (a.0 - 17) s.after in
    let apart : (i ≡ a.0 - 17 → ⊥) = λ same. other (omega (arith, low, same)) in
    ap (λ (l : List (Option ℕ)). slice_get l i) set_is ∙ other_set (sources_of readied) i (a.0 - 17) (picked_source s.after) apart ∙ ap (λ (l : List (Option ℕ)). slice_get l i) (readied_sources p a.0 healers readied r)

-- ---- an event leaves them all
killed_sources : (event : Event) (old new : List Healer) → KillsHealersIn event old new → sources_of new ≡ sources_of old
killed_sources event old new k = each_same old new k.count (λ i x y is at. ap picked_source (k.each i x y is at))

pub comes : (crawl : Bool) (p : Plan) (items added : List Line) (healers after : List Healer) (actors actors_after : List Actor) (event : Event) → due_at p (reverse items) ≡ Some event → added ≡ items ++ line_of.Event event ∷ [] → KillsHealersIn event healers after → KillsIn event actors actors_after
    → Comes (record { plan = p; log = reverse items; sources = sources_of healers; picked = picked_of actors; crawl = crawl; tasks = tasks_of crawl healers })
    (record { plan = p; log = reverse added; sources = sources_of after; picked = picked_of actors_after; crawl = crawl; tasks = tasks_of crawl after })
comes crawl p items added healers after actors actors_after event due grown killed actors_killed =
    rw (grown, reverse_push items (line_of.Event event), killed_sources event healers after killed, killed_picked event actors actors_after actors_killed, killed_tasks crawl event healers after killed) (record { event = event; is_due = due; added = refl })
