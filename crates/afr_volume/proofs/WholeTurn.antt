-- A whole turn: its premises from what the volume keeps, and what it leaves.
use Rattle.std.proofs.Common.{◌≡◌, ◌≢◌, ◌∙◌, ℕ, zero, suc, ◌+◌, ◌-◌, ◌<◌, ◌≤◌, ◌||◌, Bool, true, false, List, [], ◌∷◌, ◌++◌, refl, sym, ap, arith, subst, length, Option, Some, None, slice_get, set, reverse, nat_le, nat_lt, if◌then◌else◌, inl, inr}
use Rattle.std.proofs.lemmas.Bool.Decides.{nat_tests}
use Rattle.std.proofs.lemmas.List.{length-reverse}
use Rattle.std.proofs.lemmas.Option.{slice_get_within}
use Rattle.afr_base.specs.declared.ids.ActorId.{ActorId}
use Rattle.afr_lines.specs.Work.{work, ended, is_killed, is_of, ends_work, events_made}
use Rattle.afr_lines.specs.declared.line.Line.{Line}
use Rattle.afr_discipline.specs.declared.register.Register.{Register}
use Rattle.afr_healer.specs.declared.healer.Healer.{Healer}
use Rattle.afr_server.specs.Serving.{Serving}
use Rattle.afr_servers.specs.Log.{AreFound}
use Rattle.afr_law_next.specs.Turn.{Stood}
use Rattle.afr_servers.specs.declared.epochs.Epochs.{Epochs}
use Rattle.afr_client.specs.Work.{IsBusy}
use Rattle.afr_client.specs.declared.work.WorkMachine.{WorkMachine}
use Rattle.afr_client.specs.declared.work.WorkMachine.TheVariants.{Entry, Idle, Lookup, Rename, Write}
use Rattle.afr_plan.specs.declared.command.Command.{Command}
use Rattle.afr_plan.specs.declared.plan.Plan.{Plan}
use Rattle.afr_model.specs.Actors.{IsActor, is_done, works_of, script_of}
use Rattle.afr_model.specs.Following.{NoneDue}
use Rattle.afr_volume.specs.Acting.{CanStep, HearsAny, Stepped}
use Rattle.afr_volume.specs.Keeping.{AreCrawling, AreHealers, CanRun, Carries, IsActing, IsVolume, IsWhole}
use Rattle.afr_volume.specs.Laws.{BeginLaws, Laws, RoundLaws}
use Rattle.afr_volume.specs.Pacing.{ArePaced}
use Rattle.afr_volume.specs.State.{State}
use Rattle.afr_log.specs.Log.{waits_for}
use Rattle.afr_volume.specs.Turning.{Turns, AddsLine, Readies, ReadiedAt, StepsAt, due_at, if_due, IsTaskLine}
use Rattle.afr_volume.specs.declared.actor.Actor.{Actor}
use Rattle.afr_volume.specs.declared.turned.Turned.{Turned}
use Rattle.afr_volume.specs.declared.turned.Turned.TheVariants.{Moved, Waits}
use Rattle.afr_volume.proofs.LogLemmas.{reverse_push}
use Rattle.afr_volume.proofs.Before.{IsBefore, client_is}
use Rattle.afr_volume.proofs.HealersKeep.{healers_stay}
use Rattle.afr_volume.proofs.LineKeeps.{LineKeeps, Wrote, other_work, wrote_own}
use Rattle.afr_volume.proofs.TaskLemmas.{others_crawl}
use Rattle.afr_volume.proofs.ReadyLemmas.{script_is}
use Rattle.afr_volume.proofs.TurnKeeps.{before_turn, can_step, got_same, kept_ready, kept_turn, line_keeps}
use Rattle.std.proofs.lemmas.Bool.{or_parts, ne_eqb}
use Rattle.afr_base.specs.declared.ids.Gfid.{Gfid}
use Rattle.afr_base.specs.declared.ids.What.{What}
use Rattle.afr_volume.specs.Tasks.{is_done_in}

-- ---- the premises
pub not_killed : (p : Plan) (a : ℕ) (log : List Line) → is_done p a log ≡ false → is_killed a log ≡ false
not_killed p a log h = (or_parts (is_killed a log) _ h).0

pub work_left : (p : Plan) (a : ℕ) (log : List Line) → a ≤ 16 → is_done p a log ≡ false → ended a log < length (script_of p a)
work_left p a log small h =
    let k : nat_le (works_of p a) (ended a log) ≡ false = (or_parts (is_killed a log) _ h).1 in
    let few : nat_lt 16 a ≡ false = grind (arith, nat_tests, small) in
    let works : works_of p a ≡ length (script_of p a) = rw few refl in
    let m : nat_le (length (script_of p a)) (ended a log) ≡ false = rw works at k in
    grind (arith, nat_tests, m)

pub none_due : (p : Plan) (log : List Line) → length log < p.turns → due_at p log ≡ None → NoneDue p log
none_due p log room none x is =
    let open_log : nat_lt (length log) p.turns ≡ true = grind (arith, nat_tests, room) in
    let n : if_due (length log) (slice_get p.events (events_made log)) ≡ None = rw open_log at none in
    let m : if_due (length log) (Some x) ≡ None = rw is at n in
    go (nat_le x.at (length log)) refl m
  where
    go : (f : Bool) → nat_le x.at (length log) ≡ f → (if f then Some x.event else None) ≡ None → length log < x.at
    go true e h = absurd (cc h)
    go false e h = grind (arith, nat_tests, e)

pub ended_le : (a : ℕ) (log : List Line) → ended a log ≤ length log
ended_le a [] = omega arith
ended_le a (line ∷ older) = go (ends_work a line) (ended_le a older)
  where
    go : (f : Bool) → ended a older ≤ length older → (if f then ended a older + 1 else ended a older) ≤ length (line ∷ older)
    go true h = omega (arith, h)
    go false h = omega (arith, h)

same_ended : (p : Plan) (a : ℕ) (x z : Actor) → Readies p a x z → z.ended ≡ x.ended
same_ended p a x z (inl e) = ap (λ (y : Actor). y.ended) e
same_ended p a x z (inr r) = ap (λ (y : Actor). y.ended) r.3

-- an actor that was made ready has a command, and its count can rise
pub busy_at : {crawl : Bool} (p : Plan) (a : ℕ) (log : List Line) (servers : List Serving) (actors readied : List Actor) (made : ℕ) → 1 ≤ a → IsVolume crawl p log servers actors made → ReadiedAt p a actors readied
    → (x : Actor) → slice_get readied (a - 1) ≡ Some x → IsBusy x.work × (x.ended < 4294967295)
busy_at p a log servers actors readied made one v r x is =
    let same : x ≡ r.after = got_same actors (a - 1) r.after x (slice_get_within actors (a - 1) r.before r.was) (rw r.set_is at is) in
    let acting = v.each (a - 1) r.before r.was in
    let e : (a - 1) + 1 ≡ a = omega (arith, one) in
    let count : r.before.ended ≡ ended a log = rw e at acting.ended_is in
    (subst (λ (y : Actor). IsBusy y.work) (sym same) r.busy, rw same (omega (arith, same_ended p a r.before r.after r.readies, count, ended_le a log, v.room, v.runnable.turns)))

-- a client that isn't done has a command left
pub left_at : {crawl : Bool} (p : Plan) (a : ℕ) (items : List Line) (servers : List Serving) (actors : List Actor) (made : ℕ) → IsVolume crawl p (reverse items) servers actors made → a ≤ 16 → IsActor p a → is_done p a (reverse items) ≡ false
    → (x : Actor) → slice_get actors (a - 1) ≡ Some x → x.ended < length (script_of p a)
left_at p a items servers actors made v client actor left x is =
    let one : 1 ≤ a = (client_is p a v.runnable client actor).0 in
    let e : (a - 1) + 1 ≡ a = omega (arith, one) in
    let acting = v.each (a - 1) x is in
    let count : x.ended ≡ ended a (reverse items) = rw e at acting.ended_is in
    rw count (work_left p a (reverse items) client left)

-- the plan has a brick where it has a client
pub some_brick : {crawl : Bool} (p : Plan) (log : List Line) (servers : List Serving) (actors : List Actor) (made : ℕ) (a : ℕ) → IsVolume crawl p log servers actors made → a ≤ 16 → IsActor p a → 0 < p.shape.n
some_brick p log servers actors made a v client actor = let low = (client_is p a v.runnable client actor).0 in let high = (client_is p a v.runnable client actor).1 in v.runnable.some (omega (arith, low, high))

module _ {crawl : Bool} (laws : Laws) (starts : BeginLaws) (p : Plan) (a : ActorId) (items : List Line) (actors readied : List Actor) (servers : List Serving) (made : ℕ) (v : IsVolume crawl p (reverse items) servers actors made) (client : a.0 ≤ 16) (actor : IsActor p a.0) (room : length items < p.turns)
    (r : ReadiedAt p a.0 actors readied) where
  pub one : 1 ≤ a.0
  one = (client_is p a.0 v.runnable client actor).0

  pub ready_volume : IsVolume crawl p (reverse items) servers readied made
  ready_volume = kept_ready starts p (reverse items) servers actors readied made a.0 one (some_brick p (reverse items) servers actors made a.0 v client actor) v r

  few : length (reverse items) < p.turns
  few = omega (arith, length-reverse items, room)

  pub busy : (x : Actor) → slice_get readied (a.0 - 1) ≡ Some x → IsBusy x.work × (x.ended < 4294967295)
  busy = busy_at p a.0 (reverse items) servers actors readied made one v r

  pub before : IsBefore p a (reverse items) servers
  before = before_turn p a (reverse items) servers actors made v client actor few

  pub mine : (x : Actor) → slice_get readied (a.0 - 1) ≡ Some x → IsActing p (reverse items) a.0 servers x
  mine x is = let e : (a.0 - 1) + 1 ≡ a.0 = omega (arith, one) in subst (λ (c : ℕ). IsActing p (reverse items) c servers x) e (ready_volume.each (a.0 - 1) x is)

  -- what the bricks need for the line is there
  pub steps : (at : ℕ) → at ≡ length items → (x : Actor) → slice_get readied (a.0 - 1) ≡ Some x → CanStep a at x servers
  steps at position x is = subst (λ (at : ℕ). CanStep a at x servers) (length-reverse items ∙ sym position) (can_step laws p a (reverse items) servers before x (busy x is).0 (mine x is))

  -- ---- the turn
  pub record Took (added : List Line) (new_servers : List Serving) (new_actors : List Actor) (line : Line) : Type 0 where
    pub volume : IsVolume crawl p (reverse added) new_servers new_actors made
    pub own : is_of a.0 line ≡ true
    pub log : reverse added ≡ line ∷ reverse items
    pub wrote : Wrote a line
    pub stands : (c : ℕ) (q : Register) → (a.0 ≡ c → ⊥) → Stood p.shape c (reverse items) q → Stood p.shape c (line ∷ reverse items) q
    pub found : (c : ℕ) (epochs : Epochs) → c ≢ a.0 → AreFound c epochs servers → AreFound c epochs new_servers

  -- with the healers, which the line leaves as they were
  pub whole : (rounds : RoundLaws) (healers : List Healer) (added : List Line) (new_servers : List Serving) (new_actors : List Actor) (line : Line) → Took added new_servers new_actors line → AreHealers crawl p (reverse items) servers healers
      → ArePaced p (reverse added) new_actors healers → (crawl ≡ true → AreCrawling p (reverse items) healers) → IsWhole crawl p (reverse added) new_servers new_actors healers made
  whole rounds healers added new_servers new_actors line t k paced crawling = record {
    kept = t.volume;
    healing = subst (λ (log : List Line). AreHealers crawl p log new_servers healers) (sym t.log) (healers_stay rounds p a line (reverse items) servers new_servers healers client t.wrote t.stands t.found k);
    pacing = paced;
    crawling = λ crawls. subst (λ (log : List Line). AreCrawling p log healers) (sym t.log)
        (others_crawl p line (reverse items) healers (λ c low. other_work a c line (reverse items) t.wrote (ne_eqb a.0 c (λ same. absurd (omega (arith, client, low, same))))) (crawling crawls));
  }

  pub took : (at : ℕ) (added : List Line) (new_actors : List Actor) (new_servers : List Serving) (line : Line) → is_done p a.0 (reverse items) ≡ false → due_at p (reverse items) ≡ None → at ≡ length items
      → StepsAt HearsAny a at readied new_actors servers new_servers line → added ≡ items ++ line ∷ [] → Took added new_servers new_actors line
  took at added new_actors new_servers line left none position s grown = record {
    volume = rw (grown, reverse_push items line, s.set_is) kept;
    own = wrote_own a line keeps.wrote;
    log = rw grown (reverse_push items line);
    wrote = keeps.wrote;
    stands = keeps.stands;
    found = keeps.found;
  }
    where
      stepped : Stepped HearsAny a (length (reverse items)) s.before s.after servers new_servers line
      stepped = subst (λ (at : ℕ). Stepped HearsAny a at s.before s.after servers new_servers line) (position ∙ sym (length-reverse items)) s.steps

      keeps : LineKeeps p a (reverse items) line s.after servers new_servers
      keeps = line_keeps laws p a (reverse items) servers before s.before s.after new_servers line (busy s.before s.was).0 (mine s.before s.was) stepped

      kept : IsVolume crawl p (line ∷ reverse items) new_servers (set readied (a.0 - 1) s.after) made
      kept = kept_turn laws p a (reverse items) s.before s.after servers new_servers readied made line ready_volume client actor s.was (busy s.before s.was).0 (not_killed p a.0 (reverse items) left) few
          (none_due p (reverse items) few none) stepped

pub at_least : (p : Plan) (a : ℕ) → CanRun p → a ≤ 16 → IsActor p a → 1 ≤ a
at_least p a run client actor = (client_is p a run client actor).0

-- a client is one of the plan's
pub client_low : (p : Plan) (a : ℕ) → CanRun p → a ≤ 16 → IsActor p a → a - 1 < length p.clients
client_low p a run client actor = let low = (client_is p a run client actor).0 in let high = (client_is p a run client actor).1 in omega (arith, low, high)

-- and has its place
pub client_there : (p : Plan) (a : ℕ) (actors : List Actor) → CanRun p → length actors ≡ length p.clients → a ≤ 16 → IsActor p a → a - 1 < length actors
client_there p a actors run same client actor = let low = (client_is p a run client actor).0 in let high = (client_is p a run client actor).1 in omega (arith, low, high, same)

-- ---- a client is done where it was killed, or where it has ended its script
module _ {crawl : Bool} (p : Plan) (a : ℕ) (log : List Line) (servers : List Serving) (actors : List Actor) (made : ℕ) (v : IsVolume crawl p log servers actors made) (client : a ≤ 16) (actor : IsActor p a) (x : Actor) (is : slice_get actors (a - 1) ≡ Some x) where
  acts : IsActing p log a servers x
  acts = let one : 1 ≤ a = (client_is p a v.runnable client actor).0 in let e : (a - 1) + 1 ≡ a = omega (arith, one) in subst (λ (c : ℕ). IsActing p log c servers x) e (v.each (a - 1) x is)

  pub done_if_killed : x.killed ≡ true → x.killed ≡ is_done p a log
  done_if_killed killed = let dead : is_killed a log ≡ true = sym acts.killed_is ∙ killed in killed ∙ sym (rw dead refl)

  pub done_by_count : x.killed ≡ false → (script : List Command) → slice_get p.clients (a - 1) ≡ Some script → (count : ℕ) → count ≡ length script → nat_le count x.ended ≡ is_done p a log
  done_by_count alive script own count many =
      let lives : is_killed a log ≡ false = sym acts.killed_is ∙ alive in
      let few : nat_lt 16 a ≡ false = grind (arith, nat_tests, client) in
      let works : works_of p a ≡ count = rw few (ap length (script_is p a script own) ∙ sym many) in
      ap (λ (n : ℕ). nat_le count n) acts.ended_is ∙ sym (rw (lives, works) refl)

-- what a turn answers by the line that it added
pub turned : (a : ActorId) (old new : State) (line : Line) (waits : Option ActorId) (answer : Turned) → is_of a.0 line ≡ true → new.plan ≡ old.plan → new.log ≡ line ∷ old.log → waits_for line ≡ waits
    → ((i : ℕ) → (17 + i ≡ a.0 → ⊥) → slice_get new.sources i ≡ slice_get old.sources i) → ((i : ℕ) → (1 + i ≡ a.0 → ⊥) → slice_get new.picked i ≡ slice_get old.picked i) → new.crawl ≡ old.crawl → is_done_in a.0 old ≡ false
    → ((i : ℕ) → (18 + i ≡ a.0 → ⊥) → slice_get new.tasks i ≡ slice_get old.tasks i) → ((item : Gfid × What) → 18 ≤ a.0 → slice_get old.tasks (a.0 - 18) ≡ Some (Some item) → IsTaskLine a.0 item line old.log new.tasks)
    → ((owner : ActorId) → waits ≡ Some owner → answer ≡ Waits owner) → (waits ≡ None → answer ≡ Moved) → Turns a old answer new
turned a old new line waits answer own plan grown w others others_picked crawl left others_tasks own_task some none = go waits w some none
  where
    adds : (waits : Option ActorId) → waits_for line ≡ waits → AddsLine a old waits new
    adds waits w = record {
      line = line;
      own = own;
      waiting = w;
      plan = plan;
      added = grown;
      others = others;
      others_picked = others_picked;
      crawl = crawl;
      left = left;
      others_tasks = others_tasks;
      own_task = own_task;
    }

    go : (waits : Option ActorId) → waits_for line ≡ waits → ((owner : ActorId) → waits ≡ Some owner → answer ≡ Waits owner) → (waits ≡ None → answer ≡ Moved) → Turns a old answer new
    go (Some owner) w some none = subst (λ (t : Turned). Turns a old t new) (sym (some owner refl)) (adds (Some owner) w)
    go None w some none = subst (λ (t : Turned). Turns a old t new) (sym (none refl)) (adds None w)

-- ---- an actor that has ended all its works has no present one
with_command : (p : Plan) (a : ℕ) (log : List Line) (met : Bool) (epochs : Epochs) (servers : List Serving) (w : WorkMachine) → length (script_of p a) ≤ ended a log → Carries p a log met epochs servers w → work a log ≡ []
with_command p a log met epochs servers Idle few k = k.none
with_command p a log met epochs servers (Write m) few k = absurd (omega (arith, few, slice_get_within (script_of p a) (ended a log) k.command k.present))
with_command p a log met epochs servers (Entry m) few k = absurd (omega (arith, few, slice_get_within (script_of p a) (ended a log) k.command k.present))
with_command p a log met epochs servers (Rename m) few k = absurd (omega (arith, few, slice_get_within (script_of p a) (ended a log) k.command k.present))
with_command p a log met epochs servers (Lookup m) few k = absurd (omega (arith, few, slice_get_within (script_of p a) (ended a log) k.command k.present))

some_actor : (actors : List Actor) (i : ℕ) → i < length actors → (x : Actor) × (slice_get actors i ≡ Some x)
some_actor [] i small = absurd (omega (arith, small))
some_actor (x ∷ actors) zero small = (x, refl)
some_actor (x ∷ actors) (suc i) small = some_actor actors i (omega (arith, small))

pub settled : {crawl : Bool} (p : Plan) (log : List Line) (servers : List Serving) (actors : List Actor) (made : ℕ) → IsVolume crawl p log servers actors made → (a : ℕ) → a ≤ 16 → IsActor p a → is_done p a log ≡ true → is_killed a log ≡ false → work a log ≡ []
settled p log servers actors made v a client actor done alive = with_command p a log x.0.visit.met x.0.visit.epochs servers x.0.work few mine.carries
  where
    bounds : (1 ≤ a) × (a ≤ length p.clients) × (a ≤ 16)
    bounds = client_is p a v.runnable client actor

    one : (a - 1) + 1 ≡ a
    one = let low = bounds.0 in omega (arith, low)

    x : (x : Actor) × (slice_get actors (a - 1) ≡ Some x)
    x = let low = bounds.0 in let high = bounds.1 in some_actor actors (a - 1) (omega (arith, low, high, v.same))

    mine : IsActing p log a servers x.0
    mine = subst (λ (c : ℕ). IsActing p log c servers x.0) one (v.each (a - 1) x.0 x.1)

    few : length (script_of p a) ≤ ended a log
    few =
        let d : nat_le (works_of p a) (ended a log) ≡ true = rw alive at done in
        let most = bounds.2 in
        let small : nat_lt 16 a ≡ false = grind (arith, nat_tests, most) in
        let m : nat_le (length (script_of p a)) (ended a log) ≡ true = rw small at d in
        grind (arith, nat_tests, m)
